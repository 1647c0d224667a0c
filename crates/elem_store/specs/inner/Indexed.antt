-- How places are kept that come at any index: the settled ones in one list, and those that came
-- lately beside it. This project's own.
use Rattle.std.specs.Prelude.{◌≡◌, ℕ, ◌+◌, ◌-◌, ◌<◌, ◌≤◌, List, [], ◌∷◌, All, insert, length, slice_index_or}
use Rattle.std.specs.List.Sorted.{IsNonDecreasingBy}
use Rattle.elem_store.specs.declared.indexed.Late.{Late}

-- Places as contracts see them, and for how many more there is room.
pub record PlaceList : Type 0 where
  pub places : List ℕ
  pub spare : ℕ

-- the settled places with the late ones among them, each behind as many settled ones as its gap
-- says
abbrev pub woven : List ℕ → List Late → List ℕ
woven settled [] = settled
woven settled (late ∷ others) = insert (woven settled others) late.gap late.place

-- The gaps are among so many settled places, and don't fall along the late ones.
pub record AreGaps (count : ℕ) (late : List Late) : Type 0 where
  pub within : All (λ (l : Late). l.gap ≤ count) late
  pub rising : IsNonDecreasingBy (λ (l : Late). l.gap) late

-- So many of the late places stand before the index, and the others don't.
pub record AreBefore (late : List Late) (i j : ℕ) : Type 0 where
  pub in_range : j ≤ length late
  pub bounded : j ≤ i
  pub before : (k : ℕ) (d : Late) → k < j → (slice_index_or late k d).gap + k < i
  pub after : (k : ℕ) (d : Late) → j ≤ k → k < length late → i ≤ (slice_index_or late k d).gap + k

-- From one index of all to another one come none of the late places, but those from one of them to
-- another one.
pub record AreAside (late : List Late) (first last low high : ℕ) : Type 0 where
  pub order : first ≤ last
  pub in_range : last ≤ length late
  pub before : (k : ℕ) (d : Late) → k < first → (slice_index_or late k d).gap + k < low
  pub after : (k : ℕ) (d : Late) → last ≤ k → k < length late
      → high ≤ (slice_index_or late k d).gap + k

-- The place was put among the late ones, behind those that stand before the index.
pub record HasPutLate (old : List Late) (i place : ℕ) (new : List Late) : Type 0 where
  pub index : ℕ
  pub before : AreBefore old i index
  pub new_is : new ≡ insert old index (record { gap = i - index; place = place })
