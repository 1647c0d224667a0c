use Rattle.std.proofs.Common.{◌≡◌, ◌&&◌, not, ℕ, List, take, bytes_eq}
use Rattle.elem_store.specs.Updates.{is_among}
use Rattle.kept_view.proofs.ids.Ids.without.Given as goal

abbrev pub invariant-loop-other : goal.invariant-loop-other
invariant-loop-other l =
    (other : List ℕ) → is_among l.ids.list.items other
    ≡ (not (bytes_eq other l.id) && is_among (take l.other-index l.self.list.items) other)
