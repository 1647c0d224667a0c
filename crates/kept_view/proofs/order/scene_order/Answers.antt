use Rattle.view.proofs.CallerLemmas.{by_keys_and_ids}
use Rattle.kept_view.proofs.order.scene_order.Goals as goal

pub returns-in-Some-Some : goal.returns-in-Some-Some
returns-in-Some-Some c =
    rw (← c.e.view_is, ← c.other.view_is, c.then.ensures, c.cmp.ensures, c.cmp-in-Some-Some.ensures)
    (by_keys_and_ids c.in-Some-Some.key c.in-Some-Some.other_key c.e.inside.id c.other.inside.id c.in-Some-Some.is-0
    c.in-Some-Some.is-1)
