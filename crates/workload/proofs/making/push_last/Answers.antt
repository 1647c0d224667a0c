use Rattle.std.proofs.Common.{reverse, ap, ◌∙◌}
use Rattle.workload.proofs.MakingLaws.{last-written}
use Rattle.workload.proofs.making.push_last.Goals as goal

pub returns : goal.returns
returns c =
    let rises = c.in_ok-rising.ensures in
    let falls = c.in_ok-falling.ensures ∙ ap reverse (c.deref.ensures.value ∙ rises) in
    last-written c.args.made c.args.out.now.items c.push_delivery_line.new.out.items
    c.push_delivery_line-2.new.out.items c.push_delivery_line-3.new.out.items
    c.push_delivery_line-4.new.out.items c.deref-2.result.now c.deref-3.result.now c.deref-4.result.now
    c.deref-5.result.now (c.deref-2.ensures.value ∙ rises)
    (c.deref-3.ensures.value ∙ falls) (c.deref-4.ensures.value ∙ rises) (c.deref-5.ensures.value
    ∙ falls) c.in_ok-push_delivery_line.ensures
    c.in_ok-push_delivery_line-2.ensures c.in_ok-push_delivery_line-3.ensures c.in_ok-push_delivery_line-4.ensures
