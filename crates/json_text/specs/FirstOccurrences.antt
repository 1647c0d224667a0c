-- The first occurrence of each item of a list. This project's own.
use Rattle.std.specs.Prelude.{ℕ, List, [], ◌∷◌, Bool, not, filter, bytes_eq}

-- whether another item isn't the same
abbrev pub is_other : {T : Type 0} → (T → T → Bool) → T → T → Bool
is_other same item other = not (same item other)

-- each item once, where it stands first
abbrev pub first_occurrences : {T : Type 0} → (T → T → Bool) → List T → List T
first_occurrences same [] = []
first_occurrences same (item ∷ items) =
    item ∷ filter (is_other same item) (first_occurrences same items)

-- each text once, where it stands first
abbrev pub first_texts : List (List ℕ) → List (List ℕ)
first_texts texts = first_occurrences bytes_eq texts
