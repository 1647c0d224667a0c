use Rattle.std.proofs.Common.{◌≡◌, ◌||◌, ℕ, List, take}
use Rattle.elem_store.specs.Updates.{is_among}
use Rattle.kept_view.proofs.ids.Ids.add_all.Given as goal

abbrev pub invariant-loop-id : goal.invariant-loop-id
invariant-loop-id l =
    (other : List ℕ) → is_among l.self.list.items other
    ≡ (is_among (take l.id-index l.ids) other || is_among l.initial.self.list.items other)
