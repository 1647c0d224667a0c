use Rattle.std.proofs.Common.{sym, ◌∙◌}
use Rattle.kept_view.proofs.FollowingLaws.{replaced-followed}
use Rattle.kept_view.proofs.kept.Kept.replace_live.Goals as goal

pub returns-then-are_live-clause-new : goal.returns-then-are_live-clause-new
returns-then-are_live-clause-new c ok =
    replaced-followed c.args.self.now c.args.news.now.items c.replace_all.new.self (sym c.are_live.ensures
    ∙ c.if-are_live.true) (c.replace_all.ensures.new ok)
