-- The keys of elements, and elements with other keys. This project's own.
use Rattle.std.specs.Prelude.{◌≡◌, ℕ, List, [], ◌∷◌, true, Option, Some, map}
use Rattle.std.specs.List.{list_all}
use Rattle.frac_keys.specs.Rising.{are_rising, is_key_or_none}
use Rattle.elem.specs.ElementValue.{ElementValue}

-- the index of an element, and the element with a key as its index
abbrev pub index_of : ElementValue → Option (List ℕ)
index_of e = e.index

abbrev pub with_index : ElementValue → List ℕ → ElementValue
with_index e key = record e { index = Some key }

-- each element with its key
abbrev pub keyed : List ElementValue → List (List ℕ) → List ElementValue
keyed [] keys = []
keyed (e ∷ elements) [] = []
keyed (e ∷ elements) (key ∷ keys) = with_index e key ∷ keyed elements keys

-- each index is a key, if it is there
abbrev pub HaveKeysOrNone : List ElementValue → Type 0
HaveKeysOrNone elements = list_all is_key_or_none (map index_of elements) ≡ true

-- Each element has a key, and each key is less than the next.
pub record HaveRisingKeys (elements : List ElementValue) : Type 0 where
  pub keys : List (List ℕ)
  pub each : map index_of elements ≡ map Some keys
  pub rise : are_rising keys ≡ true
