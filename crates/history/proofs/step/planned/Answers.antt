-- The parts stand in the order of their ids.
use Rattle.std.proofs.Common.{◌≡◌, ◌+◌, ◌<◌, Some, length, take, drop, get_or, true, option_copied, sym, ap, ◌∙◌, subst, subst₂, arith}
use Rattle.std.proofs.lemmas.Result.{err_from_is_err_and}
use Rattle.elem_store.specs.Updates.{element_of}
use Rattle.elem_store.proofs.CallerLemmas.{same_id, find-Some}
use Rattle.delta.specs.Delta.{Delta}
use Rattle.delta.specs.Facts.{AreParts, part_ids}
use Rattle.frac_keys.specs.Rising.{are_rising}
use Rattle.elem.specs.Order.{has_id}
use Rattle.history.specs.Steps.{IsStep, IsFull, IsLeastFull}
use Rattle.history.proofs.StepLaws.{OnFull-weaker, least-full, next-part}
use Rattle.history.proofs.step.planned.Goals as goal

pub revert-requires : goal.revert-requires
revert-requires c =
    let stored : element_of c.args.store.now.elements c.part-item.result.id ≡ Some c.unwrap-now.result.now =
    ap (λ (part : Delta). element_of c.args.store.now.elements part.id) (sym c.part.view_is) ∙ sym c.get.ensures.element
    ∙ ap option_copied c.unwrap-now.ensures in
    record {
      id = same_id c.part-item.result.id c.unwrap-now.result.now
          (find-Some (has_id c.part-item.result.id) c.args.store.now.elements c.unwrap-now.result.now stored).1;
    }

pub returns-in_err-revert-clause-full : goal.returns-in_err-revert-clause-full
returns-in_err-revert-clause-full c =
    let store = c.args.store.now.elements in
    let items = c.as_slice-part-items.result.now in
    let i = c.loop-part.part-index in
    let part = c.part-item.result in
    let now = c.unwrap-now.result.now in
    let here : part ≡ get_or items i part = cc in
    let within : i < length items = omega arith in
    let stored : element_of store part.id ≡ Some now =
    ap (λ (part : Delta). element_of store part.id) (sym c.part.view_is) ∙ sym c.get.ensures.element
    ∙ ap option_copied c.unwrap-now.ensures in
    let rising = subst AreParts (sym c.as_slice-part-items.ensures) c.entry.invariant in
    let next = next-part items i part within here rising in
    let p = err_from_is_err_and c.from_residual.result c.from_residual.ensures.1 in
    rw (p.1, p.2)
    (OnFull-weaker _ (λ id. (id ≡ part.id) × IsFull part now) (IsLeastFull c.args.entry.now store)
    (λ id found. subst₂ (λ parts id. IsLeastFull parts store id) (sym next.2 ∙ c.as_slice-part-items.ensures
    ∙ c.entry.view_is) (sym found.0)
    (least-full store (take i items) (drop (i + 1) items) part now
    (subst (λ xs. are_rising (part_ids xs) ≡ true) next.2 rising) c.loop-part.invariant.none_full stored found.1))
    c.in_err-revert.ensures.full)

pub loop-part-preserved : goal.loop-part-preserved
loop-part-preserved c =
    let items = c.as_slice-part-items.result.now in
    let i = c.loop-part.part-index in
    let part = c.part-item.result in
    let here : part ≡ get_or items i part = cc in
    let within : i < length items = omega arith in
    let stored : element_of c.args.store.now.elements part.id ≡ Some c.unwrap-now.result.now =
    ap (λ (part : Delta). element_of c.args.store.now.elements part.id) (sym c.part.view_is) ∙ sym c.get.ensures.element
    ∙ ap option_copied c.unwrap-now.ensures in
    let next =
    next-part items i part within here (subst AreParts (sym c.as_slice-part-items.ensures) c.entry.invariant) in
    subst (λ parts. IsStep parts c.args.store.now.elements c.args.stamp.time c.args.stamp.nonce c.revert.new.given.items
    c.revert.new.made.items) (sym next.0)
    (c.in_ok-revert.ensures.ok (take i items) c.args.store.now.elements c.loop-part.invariant next.1 stored)
