use Rattle.std.proofs.Common.{sym, ap, ◌∙◌, ◌||◌, bytes_eq}
use Rattle.std.proofs.Math.Bool.{or_comm}
use Rattle.elem_store.specs.Updates.{is_among}
use Rattle.effects.proofs.ConcerningLaws.{has, added-left, added-all}
use Rattle.effects.proofs.ChosenLaws.{contains-among}
use Rattle.effects.proofs.concerning.add_set.Goals as goal

pub loop-id-init : goal.loop-id-init
loop-id-init c = λ x.
    ap (λ ids. has c.args.ids.now x || is_among ids x) c.into_iter-id-iterator.ensures.into_iter_gives.0
    ∙ or_comm (has c.args.ids.now x) (is_among c.args.others.now.keys x)
    ∙ ap (λ b. b || has c.args.ids.now x) (sym (contains-among c.args.others.now x))

pub loop-id-preserved : goal.loop-id-preserved
loop-id-preserved c = λ x.
    let own = bytes_eq x c.in-Some.id.now in
    let there = has c.loop-id.ids x in
    let rest = is_among c.next.new.self x in
    ap (λ b. b || rest) (c.in_ok-add.ensures x)
    ∙ added-left own there rest _ (ap (λ ids. there || is_among ids x) (sym c.in-Some.ensures.steps)
    ∙ c.loop-id.invariant x)

pub returns : goal.returns
returns c = λ x. added-all (has c.loop-id.ids x) _
    (ap (λ ids. has c.loop-id.ids x || is_among ids x) (sym c.in-None.ensures.steps.0) ∙ c.loop-id.invariant x)
