use Rattle.std.proofs.Common.{◌≡◌, None, take}
use Rattle.effects.specs.Refusals.{first_stored}
use Rattle.effects.proofs.refusing.check_ids_absent.Given as goal

abbrev pub invariant-loop-id : goal.invariant-loop-id
invariant-loop-id l = first_stored l.store.elements l.prefix (take l.id-index l.ids) ≡ None
