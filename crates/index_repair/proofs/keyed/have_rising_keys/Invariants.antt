use Rattle.std.proofs.Common.{drop, option_copied}
use Rattle.index_repair.proofs.RisingKeys.{HaveRisenTo}
use Rattle.index_repair.proofs.keyed.have_rising_keys.Given as goal

-- those so far have keys that rise
abbrev pub invariant-loop-e : goal.invariant-loop-e
invariant-loop-e l = HaveRisenTo l.elements.items (option_copied l.low) (drop l.e-index l.elements.items)
