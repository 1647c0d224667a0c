-- Places of shown elements. Only contracts of private functions cite this.
use Rattle.std.specs.Prelude.{◌≡◌, ℕ, List, false, slice_get}
use Rattle.std.specs.BTreeSet.{BTreeSet, contains}
use Rattle.std.specs.Cmp.Lexicographic.{slice_cmp}
use Rattle.std.specs.Option.{option_map_or}
use Rattle.std.specs.Ordering.{nat_cmp}
use Rattle.elem.specs.ElementValue.{ElementValue}

-- The set has the places of the elements of these ids, and no other number.
abbrev pub ArePlacesOf : BTreeSet ℕ → BTreeSet (List ℕ) → List ElementValue → Type 0
ArePlacesOf places ids elements =
    (i : ℕ) → contains nat_cmp places i
    ≡ option_map_or (λ (e : ElementValue). contains (slice_cmp nat_cmp) ids e.id)
    (slice_get elements i) false
