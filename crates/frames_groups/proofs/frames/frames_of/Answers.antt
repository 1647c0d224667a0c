use Rattle.std.proofs.Common.{◌≡◌, ◌+◌, ◌<◌, [], ◌∷◌, ◌++◌, length, get_or, take, sym, ap, ◌∙◌, subst, arith}
use Rattle.std.proofs.lemmas.List.{take_more}
use Rattle.elem.specs.ElementValue.{ElementValue}
use Rattle.frames_groups.proofs.FrameIds.{HasFrames, HasFrames-frame, HasFrames-other}
use Rattle.frames_groups.proofs.frames.frames_of.Goals as goal
use Rattle.frames_groups.proofs.frames.frames_of.Goals.{then-is_frame+in_ok-try_clone+in_ok-insert, else-is_frame}

pub loop-e-preserved : goal.loop-e-preserved
loop-e-preserved c =
    let i = c.loop-e.e-index in
    let all = c.args.elements.now.items in
    let e = c.e-item.result in
    let within : i < length all = omega (arith, ap length c.deref-e-items.ensures.value) in
    let more : take (i + 1) all ≡ take i all ++ e ∷ [] =
    take_more all i e within
    ∙ ap (λ x. take i all ++ x ∷ []) (sym (c.e-item.is ∙ ap (λ x. get_or x i e) c.deref-e-items.ensures.value)) in
    let has = c.loop-e.invariant in
    subst (HasFrames c.if-is_frame.frames) (sym more)
    (elim c.if-is_frame.branch [
      | then-is_frame+in_ok-try_clone+in_ok-insert w ↦
          subst (λ s. HasFrames s (take i all ++ e ∷ [])) (sym w.frames-is)
          (HasFrames-frame c.loop-e.frames w.insert.new.self (take i all) e w.in_ok-try_clone.field-0 has
          w.in_ok-insert.ensures.updates
          (w.in_ok-try_clone.ensures ∙ ap (λ (d : ElementValue). d.id) c.e.view_is)
          (sym c.is_frame.ensures ∙ w.if-is_frame.true))
      | else-is_frame w ↦
          subst (λ s. HasFrames s (take i all ++ e ∷ [])) (sym w.frames-is)
          (HasFrames-other c.loop-e.frames (take i all) e has (sym c.is_frame.ensures ∙ w.if-is_frame.false))
    ])
