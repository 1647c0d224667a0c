use Rattle.std.proofs.Common.{◌++◌, sym, ap, ◌∙◌, append_assoc}
use Rattle.elem.specs.ElementValue.{ElementValue}
use Rattle.view.specs.Shown.{without_index}
use Rattle.kept_view.specs.inner.Putting.{IsInPlace}
use Rattle.elem_store.specs.Updates.{is_among}
use Rattle.kept_view.proofs.PuttingLaws.{placed-push, in-place, drawn-push}
use Rattle.kept_view.proofs.replacing.puts_near.Goals as goal

pub loop-e-preserved-in_ok-push : goal.loop-e-preserved-in_ok-push
loop-e-preserved-in_ok-push c =
    let near = c.args.near.now.list.items in
    let is = ap (λ (d : ElementValue). is_among near d.id) (sym c.e.view_is) ∙ (sym c.has.ensures ∙ c.if-has.true) in
    record {
      placed = rw c.in_ok-push.ensures.items
          (placed-push (IsInPlace c.args.shown.now.items) c.loop-e.puts.items _ c.loop-e.invariant.placed
          (in-place c.args.shown.now.items c.in-Some-place_shown.at c.index.result.now c.in-Some.e.id
          c.in_ok-drawn_as.field-0 c.in-Some-place_shown.ensures c.index.ensures
          (ap (λ (d : ElementValue). d.id) c.in_ok-drawn_as.ensures)
          (ap (λ (d : ElementValue). d.index) c.in_ok-drawn_as.ensures)));
      drawn = rw c.in_ok-push.ensures.items
          (drawn-push (λ (e : ElementValue). is_among near e.id) c.loop-e.puts.items c.loop-e.yielded c.in-Some.e
          c.loop-e.invariant.drawn _ is (ap without_index c.in_ok-drawn_as.ensures));
      parts =
          rw append_assoc (c.loop-e.invariant.parts ∙ ap (λ rest. c.loop-e.yielded ++ rest) c.in-Some.ensures.steps.0);
    }
