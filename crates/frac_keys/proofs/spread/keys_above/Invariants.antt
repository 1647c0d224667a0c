use Rattle.std.proofs.Common.{◌≡◌, ◌-◌, ◌++◌, option_copied}
use Rattle.frac_keys.specs.Between.{keys_above}
use Rattle.frac_keys.specs.Rising.{last_or}
use Rattle.frac_keys.proofs.spread.keys_above.Given as goal

abbrev pub invariant-loop : goal.invariant-loop
invariant-loop l = l.keys.items ++ keys_above (last_or (option_copied l.a) l.keys.items) (l.n - l.counter)
    ≡ keys_above (option_copied l.a) l.n
