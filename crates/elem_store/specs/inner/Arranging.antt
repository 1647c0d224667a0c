-- How items are put in order within their own list. This project's own.
-- Only this crate's own bodies and proofs need it.
use Rattle.std.specs.Prelude.{◌≡◌, ℕ, ◌<◌, ◌≤◌, List, length, slice_index, slice_index_or}

-- From an index on, who wants what stands at a place and what place is wanted tell the same, and no place before the
-- index is wanted.
pub record AreWanted (places wanted_by : List ℕ) (i : ℕ) : Type 0 where
  pub before : (k : ℕ) → i ≤ k → k < length places → i ≤ slice_index places k
  pub within : (k : ℕ) → i ≤ k → k < length places → slice_index places k < length wanted_by
  pub by : (k : ℕ) → i ≤ k → k < length places → slice_index wanted_by (slice_index places k) ≡ k
  pub later : (p : ℕ) → i ≤ p → p < length wanted_by → slice_index wanted_by p < length places
      → i ≤ slice_index wanted_by p
  pub place : (p : ℕ) → i ≤ p → p < length wanted_by → slice_index wanted_by p < length places
      → slice_index places (slice_index wanted_by p) ≡ p

-- Of the items that are wanted of an old list, those before an index stand in their order, and the others where the
-- places tell.
pub record AreArranged {X : Type 0} (old : List X) (wanted : List ℕ) (items : List X)
    (places wanted_by : List ℕ) (i : ℕ) : Type 0 where
  pub links : AreWanted places wanted_by i
  pub number : length places ≡ length wanted
  pub count : length wanted_by ≡ length items
  pub in_range : i ≤ length items
  pub placed : (k : ℕ) (d : X) → k < i → slice_index_or items k d ≡ slice_index_or old (slice_index wanted k) d
  pub left : (k : ℕ) (d : X) → i ≤ k → k < length places
      → slice_index_or items (slice_index places k) d ≡ slice_index_or old (slice_index wanted k) d
