-- What a pass over the bytes of a text meets.
use Rattle.std.specs.Prelude.{◌≡◌, ℕ, ◌+◌, ◌-◌, List, [], ◌∷◌, ◌++◌, Bool, true, ◌==◌, if◌then◌else◌}
use Rattle.std.specs.List.{join_with_byte}
use Rattle.json_text.specs.Characters.{comma, colon, is_closing, ends_value}
use Rattle.json_text.specs.Tree.{Container, closing}
use Rattle.scene_json.specs.Layout.{line}

-- How many spaces a line has from this byte on, in the layout: two more from the first one in a
-- container on, two fewer from the bracket on that closes it, unless it is empty. This project's
-- own.
abbrev pub spaces_from : Bool → ℕ → ℕ → ℕ
spaces_from first spaces b =
    if is_closing b then (if first then spaces else spaces - 2)
    else (if first then spaces + 2 else spaces)

-- what the layout has before a byte: there the number of spaces changes, on a new line
abbrev pub put_before : Bool → ℕ → ℕ → List ℕ
put_before first spaces b =
    if is_closing b then (if first then [] else line (spaces - 2))
    else (if first then line (spaces + 2) else [])

-- what the layout has behind a byte: a new line behind a comma, a space behind a colon
abbrev pub put_behind : ℕ → ℕ → List ℕ
put_behind spaces b = if b == comma then line spaces else (if b == colon then 32 ∷ [] else [])

-- A comma or a closing bracket stands at the front.
abbrev pub IsEnd : List ℕ → Type 0
IsEnd [] = ⊥
IsEnd (b ∷ bytes) = ends_value b ≡ true

-- the rest of a container from the first of these texts on, and what follows the container
abbrev pub left_text : Container → List ℕ → List (List ℕ) → List ℕ
left_text c rest items = join_with_byte 44 items ++ closing c ∷ rest

-- the same from the end of the text before them on: a comma and they, or the closing bracket at
-- once
abbrev pub behind_item : Container → List ℕ → List (List ℕ) → List ℕ
behind_item c rest [] = closing c ∷ rest
behind_item c rest (next ∷ more) = 44 ∷ left_text c rest (next ∷ more)
