-- Each part is looked at in its turn.
use Rattle.std.proofs.Common.{◌≡◌, ◌+◌, ◌<◌, ◌≤◌, ◌++◌, ◌∷◌, [], Some, length, take, take_all, get_or, option_copied, sym, ap, ◌∙◌, subst, subst₂, inl, inr, arith}
use Rattle.std.proofs.lemmas.List.{take_more}
use Rattle.std.proofs.lemmas.List.Elements.{Contains-push_cases}
use Rattle.std.proofs.lemmas.Option.{same_Some}
use Rattle.elem.specs.Order.{has_id}
use Rattle.elem_store.specs.Updates.{element_of}
use Rattle.elem_store.proofs.CallerLemmas.{same_id, find-Some}
use Rattle.delta.specs.Delta.{Delta}
use Rattle.history.specs.Steps.{IsSeen, IsSeenPart}
use Rattle.history.proofs.step.is_seen.Goals as goal

pub is_part_seen-requires : goal.is_part_seen-requires
is_part_seen-requires c =
    let stored : element_of c.args.store.now.elements c.part-item.result.id ≡ Some c.unwrap-now.result.now =
    ap (λ (part : Delta). element_of c.args.store.now.elements part.id) (sym c.part.view_is) ∙ sym c.get.ensures.element
    ∙ ap option_copied c.unwrap-now.ensures in
    same_id c.part-item.result.id c.unwrap-now.result.now
    (find-Some (has_id c.part-item.result.id) c.args.store.now.elements c.unwrap-now.result.now stored).1

pub loop-part-preserved : goal.loop-part-preserved
loop-part-preserved c is =
    let store = c.args.store.now.elements in
    let items = c.as_slice-part-items.result.now in
    let i = c.loop-part.part-index in
    let part = c.part-item.result in
    let here : part ≡ get_or items i part = cc in
    let within : i < length items = omega arith in
    let stored : element_of store part.id ≡ Some c.unwrap-now.result.now =
    ap (λ (part : Delta). element_of store part.id) (sym c.part.view_is) ∙ sym c.get.ensures.element
    ∙ ap option_copied c.unwrap-now.ensures in
    let more : take (i + 1) items ≡ take i items ++ part ∷ [] =
    take_more items i part within ∙ ap (λ x. take i items ++ x ∷ []) (sym here) in
    let found = subst (IsSeen store) more is in
    elim (Contains-push_cases (take i items) part found.0 found.2.among) [
      | inl earlier ↦ c.loop-part.invariant (
        found.0,
        found.1,
        record { among = earlier; stored = found.2.stored },
        found.3,
      )
      | inr same ↦
          c.in_ok-seen.ensures.unseen c.if-seen.false
          (subst₂ IsSeenPart (sym same) (same_Some found.1 c.unwrap-now.result.now (sym found.2.stored
          ∙ ap (λ (q : Delta). element_of store q.id) (sym same) ∙ stored)) found.3)
    ]

pub returns-clause-unseen : goal.returns-clause-unseen
returns-clause-unseen c refused is =
    let all : length c.as_slice-part-items.result.now ≤ c.loop-part.part-index = omega arith in
    c.loop-part.invariant (subst (IsSeen c.args.store.now.elements)
    (sym (take_all _ _ all ∙ c.as_slice-part-items.ensures ∙ c.entry.view_is)) is)
