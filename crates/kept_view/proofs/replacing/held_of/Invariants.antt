use Rattle.std.proofs.Common.{◌≡◌, take, filter_map}
use Rattle.elem.specs.ElementValue.{ElementValue}
use Rattle.elem_store.specs.Updates.{element_of}
use Rattle.kept_view.proofs.replacing.held_of.Given as goal

abbrev pub invariant-loop-new : goal.invariant-loop-new
invariant-loop-new l =
    l.held.items ≡ filter_map (λ (e : ElementValue). element_of l.live.items e.id) (take l.new-index l.news.items)
