-- Each change is inverted in its place.
use Rattle.std.proofs.Common.{◌≡◌, length, map, set, get_or, add-one, refl, sym, ap, ◌∙◌, subst}
use Rattle.std.proofs.Math.Seq.{take-append_seam}
use Rattle.delta.specs.Delta.{Delta}
use Rattle.delta.specs.Facts.{IsPart}
use Rattle.delta.specs.Parts.{inverted, inverse}
use Rattle.delta.proofs.ChangeLaws.{partly-more, partly-all, IsPart-inverse}
use Rattle.delta.proofs.inverting.invert.Goals as goal

pub loop-change-init : goal.loop-change-init
loop-change-init c = refl

pub loop-change-preserved : goal.loop-change-preserved
loop-change-preserved c =
    let cs = c.deref_mut-change-items.result.now in
    let i = c.loop-change.change-index in
    let is = c.loop-change.invariant in
    rw add-one
    (ap (λ xs. set xs i c.exchange.new.change) is
    ∙ partly-more inverted cs i c.change-item.result c.exchange.new.change c.loop-change-test.true (c.exchange.ensures
    ∙ ap (λ xs. inverted (get_or xs i c.change-item.result)) is))

whole : (c : goal.After-from_vec) → c.from_vec.result ≡ map inverted c.part.inside.changes
whole c =
    let cs = c.deref_mut-change-items.result.now in
    let items = c.loop-change.change-items in
    let long : length items ≡ c.into_vec-changes.result.len =
    c.loop-change.auto.change-items ∙ c.deref_mut-change-items.ensures.len in
    c.from_vec.ensures ∙ rw (← long) (take-append_seam items _)
    ∙ c.loop-change.invariant ∙ partly-all inverted cs c.loop-change.change-index c.loop-change-test.false
    ∙ ap (map inverted) (c.deref_mut-change-items.ensures.value ∙ c.into_vec-changes.ensures)

pub invariant_of-result : goal.invariant_of-result
invariant_of-result c =
    let part : Delta = record { id = c.part.inside.id; kind = c.part.inside.kind; changes = c.part.inside.changes } in
    subst (λ changes. IsPart (record { id = c.part.inside.id; kind = c.part.inside.kind; changes = changes }))
    (sym (whole c)) (IsPart-inverse part c.part.invariant)

pub returns : goal.returns
returns c =
    let made = ap (λ changes. let part : Delta = record {
      id = c.part.inside.id;
      kind = c.part.inside.kind;
      changes =
          changes;
    } in part) (whole c) in
    made ∙ ap inverse c.part.view_is
