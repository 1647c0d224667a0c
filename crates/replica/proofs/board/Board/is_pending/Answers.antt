-- What is pending is what the entry is of.
use Rattle.std.proofs.lemmas.List.Elements.{All-nil}
use Rattle.elem.specs.Facts.{IsElement}
use Rattle.elem.specs.Said.{HasValidTexts}
use Rattle.replica.proofs.BoardLaws.{entry-tells}
use Rattle.replica.proofs.board.Board.is_pending.Goals as goal

pub returns-clause-pending : goal.returns-clause-pending
returns-clause-pending c =
    let sound = c.requires.board.0.0 in
    entry-tells c.args.self.now.snapshot.elements c.args.self.now.store.elements c.in_ok-entry.entry c.has_parts.result
    sound.snapshot_elements sound.stored_elements sound.stored_rise
    (c.in_ok-entry.ensures.entry sound.snapshot_elements sound.stored_elements
    (All-nil (λ e. IsElement e × HasValidTexts e))) c.has_parts.ensures.some c.has_parts.ensures.none
