-- How many of elements clash with earlier ones. This project's own.
use Rattle.std.specs.Prelude.{◌≡◌, ◌⊎◌, ℕ, ◌+◌, List, [], ◌∷◌, ◌++◌}
use Rattle.elem.specs.ElementValue.{ElementValue}
use Rattle.clash.specs.Firsts.{HasClash, IsLikeFirst}

-- Of the elements behind these so many clash with one before them.
abbrev pub HaveClashes : List ElementValue → List ElementValue → ℕ → Type 0
HaveClashes before [] count = count ≡ 0
HaveClashes before (e ∷ elements) count =
    (IsLikeFirst before e × HaveClashes (before ++ e ∷ []) elements count)
    ⊎ ((others : ℕ) × HasClash before e × (count ≡ others + 1)
    × HaveClashes (before ++ e ∷ []) elements others)
