use Rattle.std.proofs.Common.{◌≡◌, ◌<◌, ℕ, ◌+◌, List, [], ◌∷◌, ◌++◌, ◌⊎◌, sym, ap, ◌∙◌, subst, refl, length, map, take, get_or, take_all, append-nil, append_assoc, inl, inr, arith}
use Rattle.std.specs.List.{join_with_byte}
use Rattle.std.proofs.lemmas.List.Elements.{All-more, All-same}
use Rattle.json_text.specs.Value.{IsCompact}
use Rattle.scene_json.specs.Lines.{IsLaidOutSoFar}
use Rattle.scene_json.proofs.CallerLemmas.{mapped-step}
use Rattle.elem.specs.ElementValue.{ElementValue}
use Rattle.elem.specs.Texts.{element_text}
use Rattle.scene_file.proofs.printing.push_element_lines.Goals as goal

-- a comma, where it isn't the first text, and a text make the texts of one element more
piece_behind : (text : List ℕ) (es : List ElementValue) (e : ElementValue) (i : ℕ) (cleared comma piece : List ℕ)
    → i < length es → e ≡ get_or es i e → cleared ≡ []
    → ((0 < i) × (comma ≡ cleared ++ 44 ∷ [])) ⊎ ((i ≡ 0) × (comma ≡ cleared)) → piece ≡ comma ++ element_text e
    → (text ++ join_with_byte 44 (map element_text (take i es))) ++ piece ≡ text
    ++ join_with_byte 44 (map element_text (take (i + 1) es))
piece_behind text es e i cleared comma piece inside at empty between last =
    let before = text ++ join_with_byte 44 (map element_text (take i es)) in
    let parted : ((0 < i) × (before ++ comma ≡ before ++ 44 ∷ [])) ⊎ ((i ≡ 0) × (before ++ comma ≡ before)) =
    elim between as (λ _. ((0 < i) × (before ++ comma ≡ before ++ 44 ∷ [])) ⊎ ((i ≡ 0) × (before ++ comma ≡ before))) [
      | inl (some, same) ↦ inl (some, ap (λ x. before ++ x) (same ∙ ap (λ x. x ++ 44 ∷ []) empty))
      | inr (none, same) ↦ inr (none, ap (λ x. before ++ x) (same ∙ empty) ∙ append-nil before)
    ] in
    mapped-step element_text text es e i before (before ++ comma) (before ++ piece) inside at refl parted
    (ap (λ x. before ++ x) last ∙ sym (append_assoc before comma (element_text e)))

pub loop-i-init : goal.loop-i-init
loop-i-init c = record {
  made =
      λ text so_far. subst (λ t. IsLaidOutSoFar c.args.lines.now t c.args.out.now.items) (sym (append-nil text)) so_far;
  nest = λ k d low. absurd (omega arith);
}

pub loop-i-preserved : goal.loop-i-preserved
loop-i-preserved c =
    let es = c.args.elements.now in
    let inside : c.loop-i.i < length es = omega arith in
    record {
      made = λ text so_far.
          let before = text ++ join_with_byte 44 (map element_text (take c.loop-i.i es)) in
          subst (λ t. IsLaidOutSoFar c.push.new.self t c.push.new.out.items)
          (ap (λ x. before ++ x) c.as_slice.ensures.value
          ∙ piece_behind text es c.index-elements-i.result c.loop-i.i c.clear.new.self.items c.push_comma.new.out.items
          c.push_element.new.out.items inside
          c.index-elements-i.is c.clear.ensures.items c.in_ok-push_comma.ensures.ok c.in_ok-push_element.ensures.text)
          (c.in_ok-push.ensures.ok before (c.loop-i.invariant.made text so_far));
      nest = All-more (λ e. IsCompact 120 (element_text e)) es c.loop-i.i c.index-elements-i.result inside
          c.loop-i.invariant.nest
          (subst (λ e. IsCompact 120 (element_text e)) c.index-elements-i.is c.in_ok-push_element.ensures.nests);
    }

pub returns-clause-laid_out : goal.returns-clause-laid_out
returns-clause-laid_out c text so_far =
    subst (λ es. IsLaidOutSoFar c.loop-i.lines (text ++ join_with_byte 44 (map element_text es)) c.loop-i.out.items)
    (take_all c.loop-i.i c.args.elements.now (omega arith)) (c.loop-i.invariant.made text so_far)

pub returns-clause-nest : goal.returns-clause-nest
returns-clause-nest c =
    All-same (λ e. IsCompact 120 (element_text e)) c.args.elements.now _
    (sym (take_all c.loop-i.i c.args.elements.now (omega arith))) c.loop-i.invariant.nest
