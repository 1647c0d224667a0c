use Rattle.std.proofs.Common.{◌<◌, inl, inr, ap, ◌∙◌, subst, length, arith}
use Rattle.std.proofs.lemmas.List.Elements.{All-more}
use Rattle.elem.specs.Texts.{bound_text}
use Rattle.json_text.specs.Value.{IsCompact}
use Rattle.json_text.proofs.CallerLemmas.{extends_same, extends_by, extends_then, on_err}
use Rattle.scene_json.proofs.CallerLemmas.{mapped-step, array-closed, mapped-compact}
use Rattle.elem.proofs.values.push_listing.Goals as goal
use Rattle.elem.proofs.values.push_listing.Goals.{then-i-gt0+in_ok-push-2, else-i-gt0}

pub loop-i-preserved : goal.loop-i-preserved
loop-i-preserved c =
    let xs = c.as_slice-entry-items.result.now in
    let inside : c.loop-i.i < length xs = omega arith in
    record {
      made = mapped-step bound_text c.push.new.self.items xs c.entry-item.result c.loop-i.i c.loop-i.out.items
          c.if-i-gt0.out.items c.push_entry.new.out.items inside
          c.entry-item.is c.loop-i.invariant.made
          (elim c.if-i-gt0.branch [
            | then-i-gt0+in_ok-push-2 w ↦ inl (
              w.if-i-gt0.true,
              ap (λ v. v.items) w.out-is
                  ∙ w.in_ok-push-2.ensures.items,
            )
            | else-i-gt0 w ↦ inr (omega arith, ap (λ v. v.items) w.out-is)
          ])
          c.in_ok-push_entry.ensures.text;
      shallow = All-more (λ entry. IsCompact 1 (bound_text entry)) xs c.loop-i.i c.entry-item.result inside
          c.loop-i.invariant.shallow
          (subst (λ entry. IsCompact 1 (bound_text entry)) c.entry-item.is c.in_ok-push_entry.ensures.nests);
    }

pub returns-clause-text : goal.returns-clause-text
returns-clause-text c =
    rw (← c.as_slice-entry-items.ensures)
    (array-closed bound_text c.args.out.now.items c.push.new.self.items c.as_slice-entry-items.result.now c.loop-i.i
    c.loop-i.out.items c.push-2.new.self.items (omega arith)
    c.in_ok-push.ensures.items c.loop-i.invariant.made c.in_ok-push-3.ensures.items)

pub returns-clause-nests : goal.returns-clause-nests
returns-clause-nests c =
    rw (← c.as_slice-entry-items.ensures) (mapped-compact bound_text 1 c.loop-i.i c.as_slice-entry-items.result.now
    (omega arith) c.loop-i.invariant.shallow)

pub returns-in_err-push-2-clause-kept : goal.returns-in_err-push-2-clause-kept
returns-in_err-push-2-clause-kept c =
    on_err c.from_residual-in_err-push-2.result
    (extends_then _ _ _ (extends_by _ _ _ c.in_ok-push.ensures.items)
    (extends_then _ _ _ (extends_by _ _ _ c.loop-i.invariant.made) (extends_same _ _ c.in_err-push-2.ensures.items)))

pub returns-in_err-push_entry-clause-kept : goal.returns-in_err-push_entry-clause-kept
returns-in_err-push_entry-clause-kept c =
    on_err c.from_residual-in_err-push_entry.result
    (extends_then _ _ _ (extends_by _ _ _ c.in_ok-push.ensures.items)
    (extends_then _ _ _ (extends_by _ _ _ c.loop-i.invariant.made)
    (extends_then _ _ _
    (elim c.if-i-gt0.branch [
      | then-i-gt0+in_ok-push-2 w ↦ extends_by _ _ _ (ap (λ v. v.items) w.out-is ∙ w.in_ok-push-2.ensures.items)
      | else-i-gt0 w ↦ extends_same _ _ (ap (λ v. v.items) w.out-is)
    ])
    (c.in_err-push_entry.ensures.kept))))
