-- What `check` tells first, and where it tells the board. This project's own.
use Rattle.std.specs.Prelude.{◌≡◌, ℕ, List, Option, ◌++◌}
use Rattle.elem_read.specs.Faults.{fault_word}
use Rattle.scene_file.specs.Faults.{scene_fault_words}
use Rattle.scene_file.specs.declared.fault.SceneFault.{SceneFault}
use Rattle.scene_file.specs.declared.fault.SceneFault.TheVariants as fault
use Rattle.checks.specs.Checks.{IsBoardTold}
use Rattle.checks.specs.Lines.{element_line, text_line}
use Rattle.checks.specs.Reading.{AreTexts}
use Rattle.checks.specs.declared.judged.Judged.{Judged}

-- The text begins with the line on this fault of the text with this number: with an id, if the
-- faulty element has one.
abbrev pub BeginsWithFault : ℕ → SceneFault → List ℕ → Type 0
BeginsWithFault number (fault.Element place why) text =
    (id : Option (List ℕ)) × (rest : List ℕ)
    × (text ≡ element_line number place id (fault_word why) ++ rest)
BeginsWithFault number other text =
    (rest : List ℕ) × (text ≡ text_line number (scene_fault_words other) ++ rest)

-- The input's texts are scenes, and this text has the lines on their board, and no others.
pub record IsBoardChecked (bytes text : List ℕ) : Type 0 where
  pub judged : List Judged
  pub read : AreTexts bytes 1 0 judged
  pub told : IsBoardTold judged text
