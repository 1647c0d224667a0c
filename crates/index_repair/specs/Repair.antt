-- Index repair: a list of optional keys becomes a list of rising ones. This project's own.
use Rattle.std.specs.Prelude.{◌≡◌, ◌↔◌, ℕ, suc, ◌<◌, List, [], ◌∷◌, ◌++◌, length, slice_get, Bool, true, false, not, Option, Some, None, if◌then◌else◌, AllPairs}
use Rattle.std.specs.List.{list_all}
use Rattle.frac_keys.specs.Keys.{bytes_less}
use Rattle.frac_keys.specs.Rising.{ends_rise}
use Rattle.frac_keys.specs.Between.{keys_between}

-- The keys that are kept behind others, of which the last is given: those that are greater than all
-- kept before them.
abbrev pub kept_after : Option (List ℕ) → List (Option (List ℕ)) → List (Option (List ℕ))
kept_after low [] = []
kept_after low (None ∷ keys) = None ∷ kept_after low keys
kept_after low (Some key ∷ keys) =
    if ends_rise low (Some key) then Some key ∷ kept_after (Some key) keys else None
    ∷ kept_after low keys

-- the key of a position, if it is greater than the last one kept before it
abbrev pub kept_key : Option (List ℕ) → Option (List ℕ) → Option (List ℕ)
kept_key low None = None
kept_key low (Some key) = if ends_rise low (Some key) then Some key else None

-- the keys that are kept of a whole list, and none at the other positions
abbrev pub kept : List (Option (List ℕ)) → List (Option (List ℕ))
kept keys = kept_after None keys

-- a key is greater than each that is kept at an earlier position
abbrev pub IsAboveKept : List (Option (List ℕ)) → ℕ → List ℕ → Type 0
IsAboveKept kept i key = (j : ℕ) (other : List ℕ) → j < i → slice_get kept j ≡ Some (Some other)
    → bytes_less other key ≡ true

-- These are the kept keys: a position keeps its key exactly if that is greater than all keys kept
-- before it.
pub record AreKept (keys kept : List (Option (List ℕ))) : Type 0 where
  pub count : length kept ≡ length keys
  pub each : (i : ℕ) (key : List ℕ) → (slice_get kept i ≡ Some (Some key))
      ↔ ((slice_get keys i ≡ Some (Some key)) × IsAboveKept kept i key)

-- Each run of positions without a key gets the keys between those beside it; a run of this length
-- came before. The key above the last run, if there is one, comes first here.
abbrev pub filled_after : Option (List ℕ) → Option (List ℕ) → ℕ → List (Option (List ℕ))
    → List (List ℕ)
filled_after above low run [] = keys_between low above run
filled_after above low run (None ∷ keys) = filled_after above low (suc run) keys
filled_after above low run (Some key ∷ keys) = keys_between low (Some key) run ++ key
    ∷ filled_after above (Some key) 0 keys

-- the keys of positions between two ends: those that have one keep it, and each run of others gets
-- the keys between its two neighbours, among which the ends count
abbrev pub filled : Option (List ℕ) → Option (List ℕ) → List (Option (List ℕ)) → List (List ℕ)
filled low above keys = filled_after above low 0 keys

-- the list with the keys repaired, where a key stands above its end, or none does
unfoldable pub repaired_below : Option (List ℕ) → List (Option (List ℕ)) → List (List ℕ)
repaired_below above keys = filled None above (kept keys)

-- the list with the keys repaired
abbrev pub repaired : List (Option (List ℕ)) → List (List ℕ)
repaired keys = repaired_below None keys

-- whether each key of a list is less than one, if there is one
abbrev pub is_below : Option (List ℕ) → Option (List ℕ) → Bool
is_below above None = true
is_below above (Some key) = ends_rise (Some key) above

abbrev pub are_below : Option (List ℕ) → List (Option (List ℕ)) → Bool
are_below above keys = list_all (is_below above) keys

-- the keys of a list never fall, and positions without one come last
abbrev pub is_up_to : Option (List ℕ) → Option (List ℕ) → Bool
is_up_to None None = true
is_up_to None (Some next) = false
is_up_to (Some key) None = true
is_up_to (Some key) (Some next) = not (bytes_less next key)

abbrev pub NeverFall : List (Option (List ℕ)) → Type 0
NeverFall keys = AllPairs (λ key next. is_up_to key next ≡ true) keys

-- the new keys have those that were kept at their places
abbrev pub KeepsAll : List (Option (List ℕ)) → List (List ℕ) → Type 0
KeepsAll [] [] = Unit {0}
KeepsAll [] (new ∷ news) = ⊥
KeepsAll (key ∷ keys) [] = ⊥
KeepsAll (None ∷ keys) (new ∷ news) = KeepsAll keys news
KeepsAll (Some key ∷ keys) (new ∷ news) = (new ≡ key) × KeepsAll keys news
