use Rattle.std.proofs.Common.{◌≡◌, ◌++◌, drop, slice_get}
use Rattle.std.specs.Prelude.{filter_map}
use Rattle.elem_store.proofs.places.places_of.Given as goal

-- the places of the indices that are left complete the list
abbrev pub invariant-loop-i : goal.invariant-loop-i
invariant-loop-i l =
    l.wanted.items ++ filter_map (slice_get l.places.places) (drop l.i-index l.indices)
    ≡ filter_map (slice_get l.places.places) l.indices
