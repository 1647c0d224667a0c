use Rattle.std.proofs.Common.{◌∷◌, [], ◌∙◌, subst}
use Rattle.kept_view.specs.inner.Reached.{AreStartedBy}
use Rattle.kept_view.proofs.Stepping.{started-kept}
use Rattle.kept_view.proofs.coming.find_around.Goals as goal

pub returns : goal.returns
returns c =
    let first = c.in_ok-start.start.list.items in
    record {
      start = c.add_all_namers.new.ids.list.items;
      started =
          started-kept (c.args.e.now ∷ []) first c.add_all_namers.new.ids.list.items c.in_ok-add_all_namers.ensures.kept
          (subst (AreStartedBy first) (c.deref.ensures.value ∙ c.in_ok-news.ensures) c.in_ok-start.ensures);
      namers = rw c.id.ensures at c.in_ok-add_all_namers.ensures.namers;
      reached = c.in_ok-near.ensures;
      surrounded = rw c.in_ok-news.ensures at c.in_ok-wide.ensures;
    }
