use Rattle.kept_view.proofs.FollowingLaws.{updated-followed}
use Rattle.kept_view.proofs.live.KeptView.update_near.Goals as goal

pub returns-in-Some-clause-new : goal.returns-in-Some-clause-new
returns-in-Some-clause-new c ok =
    let found = rw c.in-Some.is at c.in_ok-news.ensures in
    updated-followed c.args.store.now.elements c.args.self.now c.in-Some.news.items c.follow.new.self c.args.ids.now
    c.is_small.ensures c.requires found
    (c.follow.ensures.new ok)
