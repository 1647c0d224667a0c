-- Where a list of keys may be cut to repair its parts apart. This project's own.
use Rattle.std.specs.Prelude.{◌≡◌, ◌≢◌, ℕ, ◌<◌, ◌≤◌, ◌-◌, List, [], ◌∷◌, length, take, drop, insert, remove, map, Bool, true, false, Option, Some, None}
use Rattle.std.specs.List.{list_all}
use Rattle.frac_keys.specs.Keys.{bytes_less}
use Rattle.frac_keys.specs.Rising.{is_key_or_none}
use Rattle.elem.specs.ElementValue.{ElementValue}
use Rattle.index_repair.specs.Repair.{are_below, repaired_below}
use Rattle.view.specs.Shown.{as_stored}

-- the first and the last of some keys
abbrev pub first_of : List (Option (List ℕ)) → Option (List ℕ)
first_of [] = None
first_of (key ∷ keys) = key

abbrev pub last_of : List (Option (List ℕ)) → Option (List ℕ)
last_of [] = None
last_of (key ∷ []) = key
last_of (key ∷ next ∷ keys) = last_of (next ∷ keys)

-- whether there are two keys, and the second is greater
abbrev pub key_rises : Option (List ℕ) → Option (List ℕ) → Bool
key_rises None next = false
key_rises (Some key) None = false
key_rises (Some key) (Some next) = bytes_less key next

-- whether a list may be cut between these parts: at an end of it, or at a key that is greater than
-- all before it
abbrev pub is_cut : List (Option (List ℕ)) → List (Option (List ℕ)) → Bool
is_cut before [] = true
is_cut [] (None ∷ after) = true
is_cut (key ∷ before) (None ∷ after) = false
is_cut before (Some key ∷ after) = are_below (Some key) before

-- whether a place is one where the keys rise
abbrev pub rises_at : List (Option (List ℕ)) → ℕ → Bool
rises_at keys at' = key_rises (last_of (take at' keys)) (first_of (drop at' keys))

-- This is a place at which keys rise before the other one, or the first one.
pub record IsRunStart (keys : List (Option (List ℕ))) (place start : ℕ) : Type 0 where
  pub before : start ≤ place
  pub rises : start ≢ 0 → (start < place) × (rises_at keys start ≡ true)

-- the keys from one place to another
abbrev pub part_of : List (Option (List ℕ)) → ℕ → ℕ → List (Option (List ℕ))
part_of keys start end' = drop start (take end' keys)

-- These are the keys of a part, which may be cut off where others of the list stand behind it,
-- repaired apart.
pub record AreRepaired (keys part : List (Option (List ℕ))) (end' : ℕ)
    (new : List (List ℕ)) : Type 0 where
  pub cut : is_cut part (drop end' keys) ≡ true
  pub exact : new ≡ repaired_below (first_of (drop end' keys)) part
  pub are_keys : list_all is_key_or_none part ≡ true

-- the key of one more element comes among those of others, which are repaired from one place on
pub record AreKeysWith (keys : List (Option (List ℕ))) (key : Option (List ℕ)) (place start : ℕ)
    (new : List (List ℕ)) : Type 0 where
  pub begins : IsRunStart keys place start
  pub end' : ℕ
  pub behind : place ≤ end'
  pub within : end' ≤ length keys
  pub repaired : AreRepaired keys (insert (part_of keys start end') (place - start) key) end' new

-- the key of a place is gone, and those of others are repaired from one place on
pub record AreKeysWithout (keys : List (Option (List ℕ))) (place start : ℕ)
    (new : List (List ℕ)) : Type 0 where
  pub begins : IsRunStart keys place start
  pub end' : ℕ
  pub behind : place < end'
  pub within : end' ≤ length keys
  pub cut : is_cut (part_of keys start end') (drop end' keys) ≡ true
  pub exact : new ≡ repaired_below (first_of (drop end' keys))
      (remove (part_of keys start end') (place - start))

-- the stored keys of shown elements
abbrev pub stored_keys : List ElementValue → List ElementValue → List (Option (List ℕ))
stored_keys live drawn = map (λ e. (as_stored live e).index) drawn
