use Rattle.kept_view.proofs.FollowingLaws.{taken-followed}
use Rattle.kept_view.proofs.live.KeptView.take_near.Goals as goal

pub returns-clause-new : goal.returns-clause-new
returns-clause-new c ok =
    taken-followed c.args.store.now.elements c.args.changed.now c.args.self.now c.in_ok-news.news.items
    c.follow.new.self c.is_small.ensures c.requires c.in_ok-news.ensures
    (c.follow.ensures.new ok)
