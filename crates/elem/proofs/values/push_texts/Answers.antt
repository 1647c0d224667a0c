use Rattle.std.proofs.Common.{◌<◌, inl, inr, ap, ◌∙◌, subst, length, arith}
use Rattle.std.proofs.lemmas.List.Elements.{All-more}
use Rattle.json_text.specs.Characters.{quote}
use Rattle.json_text.specs.Value.{IsCompact}
use Rattle.json_text.proofs.CallerLemmas.{extends_same, extends_by, extends_then, on_err}
use Rattle.scene_json.proofs.CallerLemmas.{mapped-step, array-closed, mapped-compact}
use Rattle.elem.proofs.values.push_texts.Goals as goal
use Rattle.elem.proofs.values.push_texts.Goals.{then-i-gt0+in_ok-push-2, else-i-gt0}

pub loop-i-preserved : goal.loop-i-preserved
loop-i-preserved c =
    let xs = c.as_slice-text-items.result.now in
    let inside : c.loop-i.i < length xs = omega arith in
    record {
      made = mapped-step quote c.push.new.self.items xs c.text-item.result c.loop-i.i c.loop-i.out.items
          c.if-i-gt0.out.items c.push_quote.new.out.items inside
          c.text-item.is c.loop-i.invariant.made
          (elim c.if-i-gt0.branch [
            | then-i-gt0+in_ok-push-2 w ↦ inl (
              w.if-i-gt0.true,
              ap (λ v. v.items) w.out-is
                  ∙ w.in_ok-push-2.ensures.items,
            )
            | else-i-gt0 w ↦ inr (omega arith, ap (λ v. v.items) w.out-is)
          ])
          c.in_ok-push_quote.ensures.ok;
      shallow =
          All-more (λ text. IsCompact 0 (quote text)) xs c.loop-i.i c.text-item.result inside c.loop-i.invariant.shallow
          (subst (λ text. IsCompact 0 (quote text)) c.text-item.is c.in_ok-push_quote.ensures.nests);
    }

pub returns-clause-text : goal.returns-clause-text
returns-clause-text c =
    rw (← c.as_slice-text-items.ensures)
    (array-closed quote c.args.out.now.items c.push.new.self.items c.as_slice-text-items.result.now c.loop-i.i
    c.loop-i.out.items c.push-2.new.self.items (omega arith)
    c.in_ok-push.ensures.items c.loop-i.invariant.made c.in_ok-push-3.ensures.items)

pub returns-clause-nests : goal.returns-clause-nests
returns-clause-nests c =
    rw (← c.as_slice-text-items.ensures) (mapped-compact quote 0 c.loop-i.i c.as_slice-text-items.result.now
    (omega arith) c.loop-i.invariant.shallow)

pub returns-in_err-push-2-clause-kept : goal.returns-in_err-push-2-clause-kept
returns-in_err-push-2-clause-kept c =
    on_err c.from_residual-in_err-push-2.result
    (extends_then _ _ _ (extends_by _ _ _ c.in_ok-push.ensures.items)
    (extends_then _ _ _ (extends_by _ _ _ c.loop-i.invariant.made) (extends_same _ _ c.in_err-push-2.ensures.items)))

pub returns-in_err-push_quote-clause-kept : goal.returns-in_err-push_quote-clause-kept
returns-in_err-push_quote-clause-kept c =
    on_err c.from_residual-in_err-push_quote.result
    (extends_then _ _ _ (extends_by _ _ _ c.in_ok-push.ensures.items)
    (extends_then _ _ _ (extends_by _ _ _ c.loop-i.invariant.made)
    (extends_then _ _ _
    (elim c.if-i-gt0.branch [
      | then-i-gt0+in_ok-push-2 w ↦ extends_by _ _ _ (ap (λ v. v.items) w.out-is ∙ w.in_ok-push-2.ensures.items)
      | else-i-gt0 w ↦ extends_same _ _ (ap (λ v. v.items) w.out-is)
    ])
    (extends_same _ _ c.in_err-push_quote.ensures.err))))
