use Rattle.std.proofs.Common.{◌≡◌, Some, refl, sym, ◌∙◌, subst₂}
use Rattle.kept_view.specs.inner.Following.{HaveFollowed}
use Rattle.kept_view.proofs.FollowingLaws.{twin-followed}
use Rattle.kept_view.proofs.live.KeptView.follow_each.Goals as goal

pub invariant_of-self : goal.invariant_of-self
invariant_of-self c =
    let news = c.args.news.now.items in
    let before : c.in_ok-kept.kept ≡ c.swap.new.y =
    c.in_ok-kept.ensures.twin ∙ sym c.in_ok-kept.ensures.same ∙ sym c.self.view_is ∙ sym c.swap.ensures.y_after in
    twin-followed c.swap.new.y c.swap.new.x news (Some c.swap.new.y) c.followed_twin.result refl
    (subst₂ (λ a b. HaveFollowed a news b) before (sym c.swap.ensures.x_after)
    (rw c.in-Some.is at c.in_ok-kept-2.ensures))
    c.followed_twin.ensures.followed c.followed_twin.ensures.there
