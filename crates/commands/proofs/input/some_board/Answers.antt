use Rattle.std.proofs.Common.{List, sym, subst}
use Rattle.std.proofs.lemmas.Result.{err_from_is_err_and}
use Rattle.input_texts.specs.Texts.{AreRead}
use Rattle.commands.specs.Answers.{IsRefusal}
use Rattle.commands.specs.Boards.{IsBoardOf}
use Rattle.commands.specs.Input.{HasScenes}
use Rattle.commands.specs.inner.Readers.{AreJoined, BoardSoFar, board_seen, refusal_of}
use Rattle.scene_file.specs.Heads.{Heading, IsJoinedHead}
use Rattle.commands.specs.Ends.{limit}
use Rattle.commands.proofs.Given.{unread}
use Rattle.commands.proofs.Readers.{board-read, board-refused}
use Rattle.scene_file.specs.declared.scene.Scene.{Scene}
use Rattle.commands.proofs.input.some_board.Goals as goal

pub returns-clause-board : goal.returns-clause-board
returns-clause-board g c =
    let read = c.in_ok-found.ensures.read in
    let so_far = c.read_input.new.reader in (
      read.0,
      read.1,
      subst (λ (seen : BoardSoFar). (scenes : List Scene) × HasScenes read.0 scenes
          × IsBoardOf scenes c.in_ok-head.head seen.stored) (sym c.gathered.view_is)
          (board-read read.0 so_far c.in_ok-head.head (subst (AreRead read.0 (board_seen so_far)) c.in_default.is
          read.2)
          (subst (λ (seen : BoardSoFar). (heads : List Heading) → AreJoined heads seen.heads
          → IsJoinedHead heads c.in_ok-head.head) c.gathered.view_is c.in_ok-head.ensures)),
    )

pub returns-in_err-found-clause-fault : goal.returns-in_err-found-clause-fault
returns-in_err-found-clause-fault g c =
    let p = err_from_is_err_and c.from_residual.result c.from_residual.ensures.1 in
    rw (p.1, p.2) (unread limit IsRefusal _ _ c.in_err-found.ensures.fault)

pub returns-in-Some-clause-fault : goal.returns-in-Some-clause-fault
returns-in-Some-clause-fault g c =
    let read = c.in_ok-found.ensures.read in
    let so_far = c.read_input.new.reader in
    let refused = board-refused read.0 so_far c.in-Some.stopped
    (subst (AreRead read.0 (board_seen so_far)) c.in-Some.is read.2) in (
      read.0,
      read.1,
      subst (IsRefusal read.0) (sym c.refused.ensures)
          (subst (λ (seen : BoardSoFar). IsRefusal read.0 (refusal_of seen.next c.in-Some.stopped))
          (sym c.gathered.view_is) refused),
    )
