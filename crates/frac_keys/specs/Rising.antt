-- Keys in strictly rising order, from one end to another.
use Rattle.std.specs.Prelude.{ℕ, Bool, true, ◌&&◌, List, [], ◌∷◌, Option, Some, None}
use Rattle.frac_keys.specs.Keys.{is_key, bytes_less}

-- Whether an end is less than another one; an absent end is beyond all keys.
abbrev pub ends_rise : Option (List ℕ) → Option (List ℕ) → Bool
ends_rise (Some a) (Some b) = bytes_less a b
ends_rise None b = true
ends_rise (Some a) None = true

-- Whether a key that may be missing is one where it is there.
abbrev pub is_key_or_none : Option (List ℕ) → Bool
is_key_or_none None = true
is_key_or_none (Some key) = is_key key

-- The last of the keys, or the end that they begin from where there is none.
abbrev pub last_or : Option (List ℕ) → List (List ℕ) → Option (List ℕ)
last_or end [] = end
last_or end (key ∷ keys) = last_or (Some key) keys

-- Whether a key lies strictly between two ends.
abbrev pub lies_between : Option (List ℕ) → Option (List ℕ) → List ℕ → Bool
lies_between a b key = ends_rise a (Some key) && ends_rise (Some key) b

-- Whether keys rise strictly from one end to another.
abbrev pub rise_between : Option (List ℕ) → Option (List ℕ) → List (List ℕ) → Bool
rise_between a b [] = ends_rise a b
rise_between a b (key ∷ keys) = ends_rise a (Some key) && rise_between (Some key) b keys

-- Whether keys rise strictly.
abbrev pub are_rising : List (List ℕ) → Bool
are_rising keys = rise_between None None keys
