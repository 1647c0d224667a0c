use Rattle.std.proofs.Common.{get_or, ap, ◌∙◌, arith}
use Rattle.kept_view.proofs.FollowingLaws.{followed-more}
use Rattle.kept_view.proofs.kept.Kept.follow_each.Goals as goal

pub loop-new-preserved : goal.loop-new-preserved
loop-new-preserved c =
    followed-more c.args.self c.loop-new.kept c.in-Some.after c.args.news.now.items c.loop-new.new-index
    c.new-item.result c.requires (omega arith)
    (c.new-item.is ∙ ap (λ x. get_or x c.loop-new.new-index c.new-item.result) c.deref-new-items.ensures.value)
    c.loop-new.invariant (rw c.in-Some.is at c.in_ok-after.ensures)
