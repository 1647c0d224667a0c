use Rattle.std.proofs.Common.{arith, sym}
use Rattle.kept_view.proofs.FollowingLaws.{picked-more}
use Rattle.kept_view.proofs.following.picked.Goals as goal

pub loop-id-preserved : goal.loop-id-preserved
loop-id-preserved c =
    picked-more c.args.store.now.elements c.args.ids.now c.loop-id.id-index c.id-item.result (omega arith) c.id-item.is
    c.loop-id.news.elements c.put_in.new.news.elements c.in-Some.e.now
    c.loop-id.invariant (sym c.in-Some.ensures.element) c.in_ok-put_in.ensures
