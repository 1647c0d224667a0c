use Rattle.std.proofs.Common.{◌≡◌, ◌+◌, ℕ, refl, sym, ap, ap₂, ◌∙◌, arith, append-nil}
use Rattle.workload.specs.Deeds.{messages_of, course, Course}
use Rattle.workload.specs.Draws.{after_draws}
use Rattle.workload.proofs.DeedLaws.{next_deed, course-next, lines-next, messages-few, some-more}
use Rattle.workload.proofs.making.push_events.Goals as goal

pub loop-number-init : goal.loop-number-init
unfolding course
loop-number-init c = record {
  lines = sym (append-nil c.args.out.now.items);
  made = refl;
  generator = c.generator_of-generator.ensures;
  few = omega arith;
  some = λ h. absurd (omega arith);
}

pub loop-number-preserved : goal.loop-number-preserved
loop-number-preserved c =
    let before = c.loop-number.invariant in
    let seed = c.args.seed in
    let number = c.loop-number.number in
    let next = course-next seed number in
    let deed = c.deed_of-deed.result in
    let is : deed ≡ next_deed seed number = cc in
    let few = messages-few deed in
    let makes = c.messages_of-made.ensures in
    let positive = some-more number c.loop-number.made c.draw_all-draws.result before.some in
    record {
      lines = lines-next seed number c.args.out.now.items c.loop-number.out.items c.push_deed.new.out.items
          c.push.new.self.items deed is before.lines c.in_ok-push_deed.ensures
          c.in_ok-push.ensures.items;
      made = ap₂ (λ (a b : ℕ). a + b) before.made (makes ∙ ap messages_of is) ∙ sym (ap (λ (x : Course). x.made) next);
      generator = c.draw_all-draws.ensures.after
          ∙ (ap after_draws before.generator ∙ sym (ap (λ (x : Course). x.generator) next));
      few = omega (arith, before.few, few, makes);
      some = λ h. omega (arith, positive, makes, ap messages_of c.deed_of-deed.ensures);
    }
