use Rattle.std.proofs.Common.{◌≡◌, drop, length}
use Rattle.board_paste.specs.Pasting.{first_stored}
use Rattle.board_paste.proofs.pasting.first_stored.Given as goal

abbrev pub invariant-loop-e : goal.invariant-loop-e
invariant-loop-e l =
    first_stored l.store.elements (drop (length l.yielded) l.elements) (drop (length l.yielded) l.places)
    ≡ first_stored l.store.elements l.elements l.places
