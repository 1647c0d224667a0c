use Rattle.std.proofs.Common.{◌≡◌, ◌+◌, ◌<◌, ◌≤◌, cond, length, sym, ap, ◌∙◌, arith}
use Rattle.session.proofs.ClashLaws.{firsts_with-step, counted-step}
use Rattle.session.proofs.clashes.note_all.Goals as goal
use Rattle.session.proofs.clashes.note_all.Goals.{then-branch, else-branch}

pub loop-e-preserved : goal.loop-e-preserved
loop-e-preserved c =
    let es = c.args.elements.now in
    let inside : c.loop-e.e-index < length es = omega arith in
    let counted : c.if-branch.count ≡ cond c.in_ok-note.field-0 (c.loop-e.count + 1) c.loop-e.count =
    elim c.if-branch.branch [
      | then-branch w ↦ w.count-is ∙ sym (ap (λ b. cond b (c.loop-e.count + 1) c.loop-e.count) w.if-branch.true)
      | else-branch w ↦ w.count-is ∙ sym (ap (λ b. cond b (c.loop-e.count + 1) c.loop-e.count) w.if-branch.false)
    ] in
    let few : c.if-branch.count ≤ c.loop-e.e-index + 1 =
    elim c.if-branch.branch [ then-branch w ↦ omega (arith, w.count-is) | else-branch w ↦ omega (arith, w.count-is) ] in
    record {
      counted = λ before was.
          counted-step before es c.loop-e.e-index c.e-item.result inside c.e-item.is c.loop-e.clash c.in_ok-note.field-0
          c.loop-e.count c.if-branch.count
          (c.loop-e.invariant.noted before was) (c.loop-e.invariant.counted before was) c.in_ok-note.ensures.clash
          counted;
      noted = λ before was.
          firsts_with-step before es c.loop-e.e-index c.e-item.result inside c.e-item.is c.loop-e.clash c.note.new.self
          (c.loop-e.invariant.noted before was) c.in_ok-note.ensures.noted;
      within = few;
    }
