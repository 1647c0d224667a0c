-- Open brackets as the digits of a number in base 2. Only the model of a private type cites this.
-- This project's own.
use Rattle.std.specs.Prelude.{ℕ, zero, suc, ◌/◌, ◌%◌, List, [], ◌∷◌, ◌==◌, if◌then◌else◌}
use Rattle.json_reader.specs.declared.brackets.Bracket.{Bracket}
use Rattle.json_reader.specs.declared.brackets.Bracket.TheVariants.{Square, Curly}

-- the brackets that so many digits stand for, the last digit first
abbrev pub kinds_of : ℕ → ℕ → List Bracket
kinds_of zero digits = []
kinds_of (suc n) digits = (if digits % 2 == 0 then Square else Curly) ∷ kinds_of n (digits / 2)
