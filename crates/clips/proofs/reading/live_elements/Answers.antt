use Rattle.std.proofs.Common.{All, sym, subst}
use Rattle.std.proofs.lemmas.Result.{IfOk-at_ok}
use Rattle.elem_read.specs.Reading.{IsWholeElement}
use Rattle.clips.specs.Placed.{elements_in}
use Rattle.clips.proofs.ClipTold.{live-all}
use Rattle.clips.proofs.reading.live_elements.Goals as goal

pub returns-in-None-clause-whole : goal.returns-in-None-clause-whole
returns-in-None-clause-whole c =
    subst (λ placed. All IsWholeElement (elements_in placed)) (sym c.live-placed.ensures)
    (live-all IsWholeElement c.in_ok-faults_told.field-0
    (IfOk-at_ok _ c.in_ok-faults_told.ensures.read c.read_placed.ensures.whole))
