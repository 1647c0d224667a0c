use Rattle.std.proofs.Common.{◌≡◌, None, take}
use Rattle.effects.specs.Refusals.{first_frame}
use Rattle.effects.proofs.refusing.check_no_frames.Given as goal

abbrev pub invariant-loop-id : goal.invariant-loop-id
invariant-loop-id l = first_frame l.store.elements (take l.id-index l.ids) ≡ None
