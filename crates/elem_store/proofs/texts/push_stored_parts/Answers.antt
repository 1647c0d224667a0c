use Rattle.std.proofs.Common.{◌<◌, ◌++◌, inl, inr, ap, sym, ◌∙◌, length, map, take_all, arith}
use Rattle.std.specs.List.{join_with_byte}
use Rattle.std.proofs.lemmas.Option.{get_or_from_slice_get, none-some}
use Rattle.json_text.proofs.CallerLemmas.{extends_same, extends_by, extends_then, on_err}
use Rattle.scene_json.proofs.CallerLemmas.{mapped-step}
use Rattle.elem.specs.Texts.{element_text}
use Rattle.elem_store.proofs.Placed.{some_within}
use Rattle.elem_store.proofs.texts.push_stored_parts.Goals as goal
use Rattle.elem_store.proofs.texts.push_stored_parts.Goals.{in-Some+in_ok-push_comma+in_ok-push_element, in_default}

pub loop-i-preserved : goal.loop-i-preserved
loop-i-preserved c =
    let stored = c.args.store.now.elements in
    let inside : c.loop-i.i < length stored = omega (arith, c.len-i-end.ensures.exact) in
    elim c.match-at.branch [
      | in-Some+in_ok-push_comma+in_ok-push_element w ↦ ap (λ v. v.items) w.out-is
          ∙ mapped-step element_text c.args.out.now.items stored w.in-Some.e.now c.loop-i.i c.loop-i.out.items
          w.push_comma.new.out.items w.push_element.new.out.items inside
          (sym (get_or_from_slice_get stored c.loop-i.i w.in-Some.e.now w.in-Some.e.now
          (sym w.in-Some.ensures.element)))
          c.loop-i.invariant w.in_ok-push_comma.ensures.ok w.in_ok-push_element.ensures.text
      | in_default w ↦ absurd (let x = some_within stored c.loop-i.i inside in
          none-some x.0 (w.in_default.ensures.element ∙ x.1))
    ]

pub returns-clause-text : goal.returns-clause-text
returns-clause-text c =
    c.loop-i.invariant
    ∙ ap (λ es. c.args.out.now.items ++ join_with_byte 44 (map element_text es))
    (take_all c.loop-i.i c.args.store.now.elements (omega (arith, c.len-i-end.ensures.exact)))

pub returns-in_err-push_comma-clause-kept : goal.returns-in_err-push_comma-clause-kept
returns-in_err-push_comma-clause-kept c =
    on_err c.from_residual.result
    (extends_then _ _ _ (extends_by _ _ _ c.loop-i.invariant) (extends_same _ _ c.in_err-push_comma.ensures.err))

pub returns-in_err-push_element-clause-kept : goal.returns-in_err-push_element-clause-kept
returns-in_err-push_element-clause-kept c =
    on_err c.from_residual-in_err-push_element.result
    (extends_then _ _ _ (extends_by _ _ _ c.loop-i.invariant)
    (extends_then _ _ _
    (elim c.in_ok-push_comma.ensures.ok [ inl h ↦ extends_by _ _ _ h.1 | inr h ↦ extends_same _ _ h.1 ])
    (extends_same _ _ c.in_err-push_element.ensures.err)))
