-- What names an id.
use Rattle.std.specs.Prelude.{ℕ, List, Bool, false, Option, Some, None, bytes_eq, if◌then◌else◌}

-- whether there is a name and it passes
abbrev pub is_some_that : (List ℕ → Bool) → Option (List ℕ) → Bool
is_some_that passes None = false
is_some_that passes (Some id) = passes id

-- a name, if there is one and it isn't the other one
abbrev pub apart_from : Option (List ℕ) → Option (List ℕ) → Option (List ℕ)
apart_from other None = None
apart_from None (Some id) = Some id
apart_from (Some other) (Some id) = if bytes_eq id other then None else Some id
