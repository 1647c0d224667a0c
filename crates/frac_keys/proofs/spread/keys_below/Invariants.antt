use Rattle.std.proofs.Common.{◌≡◌, ◌-◌, ◌++◌, option_copied, reverse}
use Rattle.frac_keys.specs.Between.{keys_below}
use Rattle.frac_keys.specs.Rising.{last_or}
use Rattle.frac_keys.proofs.spread.keys_below.Given as goal

abbrev pub invariant-loop : goal.invariant-loop
invariant-loop l = keys_below (last_or (option_copied l.b) l.keys.items) (l.n - l.counter) ++ reverse l.keys.items
    ≡ keys_below (option_copied l.b) l.n
