-- Inputs that are checked have one answer.
use Rattle.std.proofs.Common.{◌≡◌, ◌⊎◌, inl, inr, ℕ, List, [], true, false, Result, Ok, Err, refl, ap, arith, lit≤}
use Rattle.std.proofs.lemmas.Bool.{both_ways, cases_Bool}
use Rattle.json_text.specs.Characters.{is_blank}
use Rattle.json_reader.specs.declared.fault.JsonFault.{JsonFault}
use Rattle.json_reader.proofs.CallerLemmas.{value-or-fault}
use Rattle.scene_file.specs.declared.fault.SceneFault.TheVariants.{Json}
use Rattle.scene_file.proofs.CallerLemmas.{Stands-no_blank}
use Rattle.checks.specs.Checks.{HasNoText}
use Rattle.checks.proofs.CallerLemmas.{checked-exists, checked-once, checked-some}
use Rattle.commands.specs.Answers.{IsAnswer, IsEmptyRefusal, IsRefusal}
use Rattle.commands.specs.declared.status.InputRefusal.{InputRefusal}
use Rattle.commands.specs.declared.status.InputRefusal.TheVariants as refusal
use Rattle.commands.specs.declared.words.ProgramCommand.TheVariants.{Check}

pub empty-refusal : (bytes : List ℕ) (fault : JsonFault) (found : InputRefusal) → HasNoText bytes fault
    → found ≡ refusal.Text 1 (Json fault) → IsEmptyRefusal bytes found
empty-refusal bytes fault found is e = (
  is.blank,
  (
    1,
    Json fault,
    e,
    record {
      scenes = [];
      start = 0;
      within = omega arith;
      lead = refl;
      counted = refl;
      begun = inl refl;
      faulty = is.faulty;
    },
  ),
)

-- white space alone has no text
blank-refused : (bytes : List ℕ) → is_blank bytes ≡ true
    → (answer : Result (List ℕ) InputRefusal) × IsAnswer Check bytes answer
blank-refused bytes blank = elim (value-or-fault bytes 0 (omega arith)) [
  | inl (text, end, within, stands) ↦ absurd (Stands-no_blank bytes text _ stands blank)
  | inr (fault, is) ↦ (
    Err (refusal.Text 1 (Json fault)),
    empty-refusal bytes fault (refusal.Text 1 (Json fault)) (record { blank = blank; faulty = is }) refl,
  )
]

pub check-exists : (bytes : List ℕ) → (answer : Result (List ℕ) InputRefusal) × IsAnswer Check bytes answer
check-exists bytes = elim (cases_Bool (is_blank bytes)) [
  | inl blank ↦ blank-refused bytes blank
  | inr more ↦ let told = checked-exists bytes more in (Ok told.0, told.1)
]

pub check-once : ((f g : InputRefusal) (bytes : List ℕ) → IsRefusal bytes f → IsRefusal bytes g → f ≡ g)
    → (bytes : List ℕ) (answer other : Result (List ℕ) InputRefusal) → IsAnswer Check bytes answer
    → IsAnswer Check bytes other → answer ≡ other
check-once once bytes (Ok a) (Ok b) is also = ap Ok (checked-once bytes a b is also)
check-once once bytes (Ok a) (Err g) is also = absurd (both_ways (is_blank bytes) (checked-some bytes a is) also.0)
check-once once bytes (Err f) (Ok b) is also = absurd (both_ways (is_blank bytes) (checked-some bytes b also) is.0)
check-once once bytes (Err f) (Err g) is also = ap Err (once f g bytes is.1 also.1)
