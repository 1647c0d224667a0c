-- What is found of a form. Only contracts of private functions cite this.
use Rattle.std.specs.Prelude.{Option, MatchOption}
use Rattle.elem_read.specs.Faults.{Lacks}

-- This has the form, or nothing has it.
abbrev pub IsFoundAs : {A : Type 0} → (A → Type 0) → Option A → Type 0
IsFoundAs IsForm found = MatchOption found (Lacks IsForm) IsForm
