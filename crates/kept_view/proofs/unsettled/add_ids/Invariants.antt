use Rattle.std.proofs.Common.{◌≡◌, ◌++◌, take}
use Rattle.elem_store.specs.Updates.{ids_of}
use Rattle.kept_view.proofs.unsettled.add_ids.Given as goal

abbrev pub invariant-loop-e : goal.invariant-loop-e
invariant-loop-e l = l.ids.items ≡ l.initial.ids.items ++ ids_of (take l.e-index l.elements)
