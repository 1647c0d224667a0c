use Rattle.std.proofs.Common.{sym, ◌∙◌}
use Rattle.std.proofs.lemmas.Result.{on_ok_weaker}
use Rattle.json_text.proofs.CallerLemmas.{none-is}
use Rattle.kept_view.proofs.FollowingLaws.{begun}
use Rattle.kept_view.proofs.following.begin_with.Goals as goal

pub returns-in-Some-clause-same : goal.returns-in-Some-clause-same
returns-in-Some-clause-same c =
    on_ok_weaker c.put_in.result
    (λ has. (begun c.args.store.now.elements c.args.news.now.elements c.put_in.new.news.elements c.args.id.now
    c.in-Some.e.now (none-is _ (sym c.is_stored.ensures ∙ c.if-is_stored.false))
    (sym (rw c.in-Some.is at c.get-stored.ensures.element)) has).0)
    c.put_in.ensures

pub returns-in-Some-clause-known : goal.returns-in-Some-clause-known
returns-in-Some-clause-known c =
    on_ok_weaker c.put_in.result
    (λ has. (begun c.args.store.now.elements c.args.news.now.elements c.put_in.new.news.elements c.args.id.now
    c.in-Some.e.now (none-is _ (sym c.is_stored.ensures ∙ c.if-is_stored.false))
    (sym (rw c.in-Some.is at c.get-stored.ensures.element)) has).1)
    c.put_in.ensures
