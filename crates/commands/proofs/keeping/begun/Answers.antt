use Rattle.std.proofs.Common.{ap, sym, subst, All, ℕ, List}
use Rattle.std.proofs.lemmas.Result.{IfOk-weaker}
use Rattle.elem.specs.ElementValue.{ElementValue}
use Rattle.elem_read.specs.Reading.{IsWholeElement}
use Rattle.scene_file.specs.Whole.{HaveKeys}
use Rattle.commands.specs.Ends.{span, WasRead}
use Rattle.commands.specs.Keeping.{BeginsWith, limit_from}
use Rattle.commands.specs.Serving.{Begun}
use Rattle.commands.specs.declared.words.Begins.{Begins}
use Rattle.commands.proofs.Reread.{board-whole}
use Rattle.commands.proofs.keeping.begun.Goals as goal

pub returns-in-Scenes-clause-whole : goal.returns-in-Scenes-clause-whole
returns-in-Scenes-clause-whole g c =
    IfOk-weaker c.some_board.result _ _
    (λ begun is. let whole = board-whole is.0 is.2.0 begun.0 begun.1.elements is.2.1 is.2.2 in
    (whole.head_whole, (whole.whole, whole.keys))) c.some_board.ensures.board

pub returns-in_ok-resume-in-Journal-clause-begun : goal.returns-in_ok-resume-in-Journal-clause-begun
returns-in_ok-resume-in-Journal-clause-begun g c =
    let read = c.in_ok-head-in-Journal.ensures.recovered in
    let head = c.in_ok-head-in-Journal.head in
    let begun : Begun = record { head = head; stored = c.in_ok-resume-in-Journal.field-0.elements } in
    subst (λ (begins : Begins). (bytes : List ℕ)
    × WasRead (limit_from begins) (span (g.S.Source.seen c.args.input.now) (g.S.Source.seen c.recorded.new.input))
    bytes
    × BeginsWith begins bytes begun) (sym c.in-Journal.is) (
      read.0,
      read.1,
      (
        record { head = head; elements = c.in_ok-head-in-Journal.store.elements },
        read.2,
        read.3,
        ap (λ (stored : List ElementValue). record { head = head; stored = stored }) c.in_ok-resume-in-Journal.ensures,
      ),
    )

pub returns-in_ok-resume-in-Journal-clause-whole : goal.returns-in_ok-resume-in-Journal-clause-whole
returns-in_ok-resume-in-Journal-clause-whole g c =
    let read = c.in_ok-head-in-Journal.ensures.recovered in
    let elements = c.in_ok-head-in-Journal.store.elements in
    let is = sym c.in_ok-resume-in-Journal.ensures in (
      c.recovered_is_whole.ensures.head read.0 _ read.3,
      (
        subst (All IsWholeElement) is (c.resumed_elements_have_keys.ensures.whole elements
            (c.recovered_is_whole.ensures.elements read.0 _ read.3)),
        subst HaveKeys is (c.resumed_elements_have_keys.ensures.keys elements),
      ),
    )
