use Rattle.std.proofs.Common.{◌≡◌, None, take}
use Rattle.effects.specs.Refusals.{first_missing}
use Rattle.effects.proofs.refusing.check_ids.Given as goal

abbrev pub invariant-loop-id : goal.invariant-loop-id
invariant-loop-id l = first_missing l.store.elements (take l.id-index l.ids) ≡ None
