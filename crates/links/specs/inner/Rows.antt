-- Rows of who names whom. This project's own.
-- Only this crate's own bodies and proofs need it.
use Rattle.std.specs.Prelude.{◌≡◌, ℕ, ◌<◌, ◌≤◌, List, true, Some, length, slice_get, slice_index_or}
use Rattle.frac_keys.specs.Keys.{bytes_less}
use Rattle.links.specs.declared.rows.LinkRow.{LinkRow}
use Rattle.links.specs.Rows.{is_earlier}

-- a row that isn't there would stand at this index: earlier rows before it, later ones from it on
pub record IsGapFor (rows : List LinkRow) (row : LinkRow) (i : ℕ) : Type 0 where
  pub in_range : i ≤ length rows
  pub before : (k : ℕ) (d : LinkRow) → k < i → is_earlier (slice_index_or rows k d) row ≡ true
  pub behind : (k : ℕ) (d : LinkRow) → i ≤ k → k < length rows
      → is_earlier row (slice_index_or rows k d) ≡ true

-- the row at an index is this one
abbrev pub IsRowAt : List LinkRow → LinkRow → ℕ → Type 0
IsRowAt rows row i = slice_get rows i ≡ Some row

-- the ids from the one place on and before the other are those that are this one: lesser ones come
-- before, greater ones after them
pub record AreEndsOf (ids : List (List ℕ)) (id : List ℕ) (start end' : ℕ) : Type 0 where
  pub ordered : start ≤ end'
  pub within : end' ≤ length ids
  pub less : (k : ℕ) (d : List ℕ) → k < start → bytes_less (slice_index_or ids k d) id ≡ true
  pub same : (k : ℕ) (d : List ℕ) → start ≤ k → k < end' → slice_index_or ids k d ≡ id
  pub greater : (k : ℕ) (d : List ℕ) → end' ≤ k → k < length ids
      → bytes_less id (slice_index_or ids k d) ≡ true
