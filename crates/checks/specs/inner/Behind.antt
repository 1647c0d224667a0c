-- The texts behind a text. Only contracts of private functions cite this.
use Rattle.std.specs.Prelude.{◌≡◌, ℕ, ◌+◌, List, [], Option, Some, None}
use Rattle.checks.specs.Reading.{AreTexts}
use Rattle.checks.specs.declared.judged.Judged.{Judged}

-- what may stand behind the text with this number: texts from its end on, or none
abbrev pub AreBehind : List ℕ → ℕ → Option ℕ → List Judged → Type 0
AreBehind bytes number None more = more ≡ []
AreBehind bytes number (Some end) more = AreTexts bytes (number + 1) end more
