use Rattle.std.proofs.Common.{◌≡◌, take, filter_map}
use Rattle.kept_view.specs.inner.Replacing.{element_after}
use Rattle.kept_view.proofs.replacing.elements_after.Given as goal

abbrev pub invariant-loop-id : goal.invariant-loop-id
invariant-loop-id l = l.found.items ≡ filter_map (element_after l.live.items l.news.items) (take l.id-index l.ids.items)
