-- Each part is inverted in its place.
use Rattle.std.proofs.Common.{◌≡◌, length, map, set, get_or, add-one, refl, sym, ap, ◌∙◌, subst}
use Rattle.std.proofs.Math.Seq.{take-append_seam}
use Rattle.delta.specs.Facts.{AreParts}
use Rattle.delta.specs.Parts.{inverse}
use Rattle.delta.proofs.ChangeLaws.{partly-more, partly-all, AreParts-inverse}
use Rattle.delta.proofs.inverting.invert_entry.Goals as goal

pub loop-part-init : goal.loop-part-init
loop-part-init c = refl

pub loop-part-preserved : goal.loop-part-preserved
loop-part-preserved c =
    let parts = c.deref_mut-part-items.result.now in
    let i = c.loop-part.part-index in
    let is = c.loop-part.invariant in
    rw add-one
    (ap (λ xs. set xs i c.turn.new.part) is
    ∙ partly-more inverse parts i c.part-item.result c.turn.new.part c.loop-part-test.true (c.turn.ensures
    ∙ ap (λ xs. inverse (get_or xs i c.part-item.result)) is))

whole : (c : goal.After-from_vec) → c.from_vec.result ≡ map inverse c.entry.inside.parts
whole c =
    let parts = c.deref_mut-part-items.result.now in
    let items = c.loop-part.part-items in
    let long : length items ≡ c.into_vec-parts.result.len =
    c.loop-part.auto.part-items ∙ c.deref_mut-part-items.ensures.len in
    c.from_vec.ensures ∙ rw (← long) (take-append_seam items _)
    ∙ c.loop-part.invariant ∙ partly-all inverse parts c.loop-part.part-index c.loop-part-test.false
    ∙ ap (map inverse) (c.deref_mut-part-items.ensures.value ∙ c.into_vec-parts.ensures)

pub invariant_of-result : goal.invariant_of-result
invariant_of-result c = subst AreParts (sym (whole c)) (AreParts-inverse c.entry.inside.parts c.entry.invariant)

pub returns : goal.returns
returns c = whole c ∙ ap (map inverse) c.entry.view_is
