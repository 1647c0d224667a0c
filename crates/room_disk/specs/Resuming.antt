-- What a room resumes with: every stored element has a key. This project's own.
use Rattle.std.specs.Prelude.{◌≡◌, ◌⊎◌, ℕ, suc, List, [], ◌∷◌, ◌++◌, true, Option, Some, None, if◌then◌else◌}
use Rattle.frac_keys.specs.Between.{key_between}
use Rattle.frac_keys.specs.Keys.{bytes_less}
use Rattle.frac_keys.specs.Rising.{ends_rise}
use Rattle.elem.specs.ElementValue.{ElementValue}
use Rattle.index_repair.specs.Keyed.{with_index}

-- of two keys, either of which may be missing, the greater one
abbrev pub greater_key : Option (List ℕ) → Option (List ℕ) → Option (List ℕ)
greater_key low None = low
greater_key low (Some key) = if ends_rise low (Some key) then Some key else low

-- the greatest key of elements and one that may be missing
abbrev pub greatest_key : Option (List ℕ) → List ElementValue → Option (List ℕ)
greatest_key low [] = low
greatest_key low (e ∷ elements) = greatest_key (greater_key low e.index) elements

-- the element whose key this is, where it has none with the key above the last one; and the last
-- one then
abbrev pub with_key_above : Option (List ℕ) → Option (List ℕ) → ElementValue → ElementValue
with_key_above (Some key) last e = e
with_key_above None last e = with_index e (key_between last None)

abbrev pub last_behind : Option (List ℕ) → Option (List ℕ) → Option (List ℕ)
last_behind (Some key) last = last
last_behind None last = Some (key_between last None)

-- the elements, of which those without a key get one each, above this key and above one another
abbrev pub filled_above : Option (List ℕ) → List ElementValue → List ElementValue
filled_above last [] = []
filled_above last (e ∷ elements) =
    with_key_above e.index last e ∷ filled_above (last_behind e.index last) elements

-- The stored elements, in the order of the ids, where each without a key gets one above the
-- greatest of all.
abbrev pub resumed : List ElementValue → List ElementValue
resumed elements = filled_above (greatest_key None elements) elements

-- how many elements have no key
abbrev pub keyless_with : Option (List ℕ) → ℕ → ℕ
keyless_with (Some key) count = count
keyless_with None count = suc count

abbrev pub keyless_count : List ElementValue → ℕ
keyless_count [] = 0
keyless_count (e ∷ elements) = keyless_with e.index (keyless_count elements)

-- the keys that elements have in place of others which had none, in order
abbrev pub key_if_new : Option (List ℕ) → ElementValue → List (Option (List ℕ))
key_if_new (Some key) new = []
key_if_new None new = new.index ∷ []

abbrev pub new_keys : List ElementValue → List ElementValue → List (Option (List ℕ))
new_keys [] news = []
new_keys (e ∷ elements) [] = []
new_keys (e ∷ elements) (new ∷ news) = key_if_new e.index new ++ new_keys elements news

-- An element with a key stays; one without differs in its key alone.
abbrev pub IsFilled : Option (List ℕ) → ElementValue → ElementValue → Type 0
IsFilled (Some key) e new = new ≡ e
IsFilled None e new = (key : List ℕ) × (new ≡ with_index e key)

abbrev pub AreFilled : List ElementValue → List ElementValue → Type 0
AreFilled [] [] = Unit {0}
AreFilled [] (new ∷ news) = ⊥
AreFilled (e ∷ elements) [] = ⊥
AreFilled (e ∷ elements) (new ∷ news) = IsFilled e.index e new × AreFilled elements news

-- A key is this one, or less.
abbrev pub IsAtMost : List ℕ → Option (List ℕ) → Type 0
IsAtMost key None = ⊥
IsAtMost key (Some greatest) = (key ≡ greatest) ⊎ (bytes_less key greatest ≡ true)
