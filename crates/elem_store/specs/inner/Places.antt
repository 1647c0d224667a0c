-- How a store keeps its elements: as they came, beside their places in the order of their ids. This
-- project's own.
-- Only this crate's own bodies and proofs need it.
use Rattle.std.specs.Prelude.{◌≡◌, ℕ, ◌<◌, ◌≤◌, List, [], length, slice_get, slice_index_or}
use Rattle.std.specs.Cmp.Lexicographic.{slice_cmp}
use Rattle.std.specs.Option.{option_map_or}
use Rattle.std.specs.Ordering.{nat_cmp}
use Rattle.std.specs.declared.cmp.Ordering.{Ordering}
use Rattle.std.specs.declared.cmp.Ordering.TheVariants.{Less, Greater}
use Rattle.elem.specs.ElementValue.{ElementValue}

-- how the id of the element at a place compares with an id
abbrev pub order_at : List ElementValue → List ℕ → ℕ → Ordering
order_at elements id place = option_map_or (λ (e : ElementValue). slice_cmp nat_cmp e.id id)
    (slice_get elements place) Less

-- the id of the element at a place, or the empty one where there is none
abbrev pub id_at : List ElementValue → ℕ → List ℕ
id_at elements place = option_map_or (λ (e : ElementValue). e.id) (slice_get elements place) []

-- The ids at the places before the one index are less than an id, and those from the other index on
-- are greater.
pub record IsBetween (elements : List ElementValue) (places : List ℕ) (id : List ℕ) (low high : ℕ) :
    Type 0 where
  pub low_within : low ≤ length places
  pub high_within : high ≤ length places
  pub less : (k d : ℕ) → k < low → order_at elements id (slice_index_or places k d) ≡ Less
  pub greater : (k d : ℕ) → high ≤ k → k < length places
      → order_at elements id (slice_index_or places k d) ≡ Greater
