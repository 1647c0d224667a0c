use Rattle.std.proofs.Common.{ap, sym}
use Rattle.board_ends.specs.Script.{ScriptState}
use Rattle.board_ends.proofs.Opens.{OpensAt-next}
use Rattle.board_ends.proofs.script.Script.next.Goals as goal

pub returns-in_ok-copy-in-Some-clause-numbered : goal.returns-in_ok-copy-in-Some-clause-numbered
returns-in_ok-copy-in-Some-clause-numbered c =
    let at = rw c.as_slice.ensures at c.in-Some.ensures.lookup in
    rw (ap (λ (script : ScriptState). script.given) (sym c.self.view_is), c.in_ok-copy-in-Some.ensures)
    (OpensAt-next _ _ _ _ c.self.invariant.2 at.3.0 at.1)
