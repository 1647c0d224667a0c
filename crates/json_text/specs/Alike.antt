-- Spellings of one value.
use Rattle.std.specs.Prelude.{◌≡◌, ℕ, List, [], ◌∷◌, not, false, bytes_eq, filter, if◌then◌else◌}
use Rattle.std.specs.List.{list_any}
use Rattle.json_text.specs.Tree.{Tree, scalar, text, empty, filled, array, object, Values, last, next}
use Rattle.json_text.specs.Compact.{content, label_name, members}
use Rattle.json_text.specs.Parts.{names_of}

-- each name once, at its first place
abbrev pub first_names : List (List ℕ) → List (List ℕ)
first_names [] = []
first_names (name ∷ names) =
    name ∷ filter (λ (other : List ℕ). not (bytes_eq name other)) (first_names names)

-- the last value of this name, and the given one where there is none
abbrev pub last_named : List ℕ → Tree → Values → Tree
last_named name value (last label another blank) =
    if bytes_eq name (label_name label) then another else value
last_named name value (next label another blank values) =
    last_named name (if bytes_eq name (label_name label) then another else value) values

-- The trees differ, at any depth, in white space outside strings, in how the characters of strings
-- are spelled and in the earlier values of repeated names alone: two objects have the same names in
-- the same order of their first places, and the last values of each name are alike. This project's
-- own, over RFC 8259, sections 2, 4 and 7.
abbrev mutual
  pub AreAlike : Tree → Tree → Type 0
  AreAlike (scalar literal) (scalar other) = literal ≡ other
  AreAlike (text pieces) (text others) = content pieces ≡ content others
  AreAlike (empty container blank) (empty other more) = container ≡ other
  AreAlike (filled array values) (filled array others) = AreItemsAlike values others
  AreAlike (filled object values) (filled object others) =
      (first_names (names_of (members values)) ≡ first_names (names_of (members others)))
      × AreLastAlike values others
  AreAlike _ _ = ⊥

  -- there are as many items, and they are alike one by one
  pub AreItemsAlike : Values → Values → Type 0
  AreItemsAlike (last label value blank) (last other another more) = AreAlike value another
  AreItemsAlike (next label value blank values) (next other another more others) =
      AreAlike value another × AreItemsAlike values others
  AreItemsAlike _ _ = ⊥

  -- a value whose name doesn't come again is like the last one of that name among the others
  pub AreLastAlike : Values → Values → Type 0
  AreLastAlike (last label value blank) others =
      AreAlike value (last_named (label_name label) value others)
  AreLastAlike (next label value blank values) others =
      (list_any (bytes_eq (label_name label)) (names_of (members values)) ≡ false
      → AreAlike value (last_named (label_name label) value others))
      × AreLastAlike values others
