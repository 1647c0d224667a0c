-- Runs of the machine. Only contracts of private functions cite this.
use Rattle.std.specs.Prelude.{◌≡◌, ℕ, List, [], ◌∷◌, Bool, true, false}
use Rattle.json_reader.specs.Feeding.{behind_space}
use Rattle.json_reader.specs.inner.Machine.{Bracket, Machine, Mode, After, Fresh, Outcome, state, ended, refused, step}

-- what comes of a byte more, where at most so many brackets may be open
abbrev pub go : ℕ → Outcome → ℕ → Outcome
go limit (state m st) b = step limit m st b
go limit (ended x) b = refused
go limit refused b = refused

-- what comes of these bytes, one after the other
abbrev pub run : ℕ → Outcome → List ℕ → Outcome
run limit from [] = from
run limit from (b ∷ bytes) = run limit (go limit from b) bytes

-- a value must come, and no bracket is open
abbrev pub start : Outcome
start = state Mode.Value []

-- The machine goes on over these bytes.
abbrev pub RunsOn : Machine → List ℕ → Machine → Type 0
RunsOn old bytes new = run 128 (state old.mode old.brackets) bytes ≡ state new.mode new.brackets

-- The value has ended, whatever follows: no bracket is open, and it is no scalar that is under way.
abbrev pub is_over : Mode → List Bracket → Bool
is_over After [] = true
is_over Fresh [] = true
is_over m st = false

-- The bytes of a value under way, which are nothing or begin with no white space: the value isn't
-- over.
pub record IsKept (rest : List ℕ) : Type 0 where
  pub mode : Mode
  pub brackets : List Bracket
  pub ran : run 128 start rest ≡ state mode brackets
  pub begun : behind_space rest ≡ rest
  pub goes_on : is_over mode brackets ≡ false
