use Rattle.std.proofs.Common.{filter_map}
use Rattle.view.proofs.CallerLemmas.{HaveDistinctIds-permuted, IsPermutation-in_scene_order}
use Rattle.kept_view.specs.inner.Replacing.{element_after}
use Rattle.kept_view.proofs.Picked.{distinct-after}
use Rattle.kept_view.proofs.replacing.settled_after.Goals as goal

pub sort-requires : goal.sort-requires
sort-requires c = rw c.in_ok-elements.ensures (distinct-after c.args.live.now.items c.args.news.now.items
    c.args.ids.now.list.items c.args.ids.now.distinct)

pub settled_of-requires : goal.settled_of-requires
settled_of-requires c =
    let found = filter_map (element_after c.args.live.now.items c.args.news.now.items) c.args.ids.now.list.items in
    rw (c.from_vec.ensures, c.in_ok-sort.ensures, c.in_ok-elements.ensures)
    (HaveDistinctIds-permuted found _ (IsPermutation-in_scene_order found)
    (distinct-after c.args.live.now.items c.args.news.now.items c.args.ids.now.list.items c.args.ids.now.distinct))
