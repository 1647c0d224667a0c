use Rattle.std.proofs.Common.{ℕ, List, ◌||◌, bytes_eq, arith, take_all, ap, ◌∙◌}
use Rattle.elem_store.specs.Updates.{is_among}
use Rattle.effects.proofs.ConcerningLaws.{has, added-more}
use Rattle.effects.proofs.concerning.add_all.Goals as goal

pub loop-id-preserved : goal.loop-id-preserved
loop-id-preserved c = λ x.
    added-more (List ℕ) (bytes_eq x) c.args.others.now c.loop-id.id-index c.id-item.result (has c.args.ids.now x)
    (has c.loop-id.ids x) (has c.add.new.ids x)
    (omega arith) c.id-item.is (c.loop-id.invariant x) (c.in_ok-add.ensures x)

pub returns : goal.returns
returns c = λ x. c.loop-id.invariant x
    ∙ ap (λ ids. is_among ids x || has c.args.ids.now x) (take_all c.loop-id.id-index c.args.others.now (omega arith))
