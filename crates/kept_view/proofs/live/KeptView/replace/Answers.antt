use Rattle.std.proofs.Common.{◌≡◌, Ok, IfSome, ap, sym, subst}
use Rattle.kept_view.proofs.FollowingLaws.{twin-followed}
use Rattle.kept_view.proofs.live.KeptView.replace.Goals as goal

pub invariant_of-self-2 : goal.invariant_of-self-2
invariant_of-self-2 c =
    twin-followed c.self.inside.kept c.replace_live.new.self c.args.news.now.items c.take-twin.result
    c.followed_twin.result
    (subst (λ t. IfSome t (λ twin. twin ≡ c.self.inside.kept)) (sym c.take-twin.ensures.value) c.self.invariant)
    (c.in_ok-replace_live.ensures.new (ap Ok c.if-not-branch.false))
    c.followed_twin.ensures.followed c.followed_twin.ensures.there
