-- What is found by a property that one thing at most has.
use Rattle.std.specs.Prelude.{◌≡◌, Option, Some, None}

-- What was found is the one thing with this property; nothing was found exactly where nothing has
-- it. This project's own.
abbrev pub IsTheOne : {A : Type 0} → (A → Type 0) → Option A → Type 0
IsTheOne P None = (x : _) → P x → ⊥
IsTheOne P (Some x) = P x × ((other : _) → P other → other ≡ x)
