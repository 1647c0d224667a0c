use Rattle.std.proofs.Common.{◌<◌, inl, inr, ◌++◌, sym, ap, ◌∙◌, subst, length, map, take_all, arith}
use Rattle.std.proofs.lemmas.List.Elements.{All-more, All-same}
use Rattle.std.specs.List.{join_with_byte}
use Rattle.json_text.specs.Value.{IsCompact}
use Rattle.json_text.proofs.CallerLemmas.{extends_same, extends_by, extends_then, on_err}
use Rattle.scene_json.proofs.CallerLemmas.{mapped-step}
use Rattle.elem.specs.Texts.{element_text}
use Rattle.elem.proofs.raw.push_elements_parts.Goals as goal

pub loop-i-preserved : goal.loop-i-preserved
loop-i-preserved c =
    let es = c.args.elements.now in
    let inside : c.loop-i.i < length es = omega arith in
    record {
      made = mapped-step element_text c.args.out.now.items es c.index-elements-i.result c.loop-i.i c.loop-i.out.items
          c.push_comma.new.out.items c.push_element.new.out.items inside
          c.index-elements-i.is c.loop-i.invariant.made c.in_ok-push_comma.ensures.ok c.in_ok-push_element.ensures.text;
      nest = All-more (λ e. IsCompact 120 (element_text e)) es c.loop-i.i c.index-elements-i.result inside
          c.loop-i.invariant.nest
          (subst (λ e. IsCompact 120 (element_text e)) c.index-elements-i.is c.in_ok-push_element.ensures.nests);
    }

pub returns-clause-text : goal.returns-clause-text
returns-clause-text c =
    c.loop-i.invariant.made
    ∙ ap (λ es. c.args.out.now.items ++ join_with_byte 44 (map element_text es))
    (take_all c.loop-i.i c.args.elements.now (omega arith))

pub returns-clause-nest : goal.returns-clause-nest
returns-clause-nest c =
    All-same (λ e. IsCompact 120 (element_text e)) c.args.elements.now _
    (sym (take_all c.loop-i.i c.args.elements.now (omega arith))) c.loop-i.invariant.nest

pub returns-in_err-push_comma-clause-kept : goal.returns-in_err-push_comma-clause-kept
returns-in_err-push_comma-clause-kept c =
    on_err c.from_residual.result
    (extends_then _ _ _ (extends_by _ _ _ c.loop-i.invariant.made) (extends_same _ _ c.in_err-push_comma.ensures.err))

pub returns-in_err-push_element-clause-kept : goal.returns-in_err-push_element-clause-kept
returns-in_err-push_element-clause-kept c =
    on_err c.from_residual-in_err-push_element.result
    (extends_then _ _ _ (extends_by _ _ _ c.loop-i.invariant.made)
    (extends_then _ _ _
    (elim c.in_ok-push_comma.ensures.ok [ inl h ↦ extends_by _ _ _ h.1 | inr h ↦ extends_same _ _ h.1 ])
    (extends_same _ _ c.in_err-push_element.ensures.err)))
