-- What an input that is checked is answered with. This project's own.
use Rattle.std.specs.Prelude.{◌≡◌, ◌≢◌, ℕ, List, [], true, MatchBool, length}
use Rattle.json_text.specs.Characters.{is_blank}
use Rattle.json_reader.specs.Faults.{IsFirstFault}
use Rattle.json_reader.specs.declared.fault.JsonFault.{JsonFault}
use Rattle.elem.specs.ElementValue.{ElementValue}
use Rattle.elem_store.specs.Updates.{AreStored}
use Rattle.view.specs.Shown.{live_elements, shown}
use Rattle.scene_file.specs.Heads.{Heading, IsJoinedHead}
use Rattle.checks.specs.Lines.{are_scenes, board_lines, fault_lines, heads_of, kept_of, spots_of, updates_of}
use Rattle.checks.specs.Reading.{AreTexts}
use Rattle.checks.specs.declared.judged.Judged.{Judged}

-- The text has the lines on the board of these scenes: on each element that isn't kept, on each
-- that is shown otherwise than it stands, on their order, and on each file that no image shows.
pub record IsBoardTold (judged : List Judged) (text : List ℕ) : Type 0 where
  pub head : Heading
  pub stored : List ElementValue
  pub joined : IsJoinedHead (heads_of judged) head
  pub stores : AreStored (updates_of judged) stored
  pub told : text ≡ board_lines (kept_of stored (updates_of judged)) (length judged)
      (updates_of judged) (spots_of judged) (shown (live_elements stored)) head.files

-- The text has the lines on the board of these texts where each is a scene, and else those on their
-- faults.
abbrev pub IsTold : List Judged → List ℕ → Type 0
IsTold judged text = MatchBool (are_scenes judged) (IsBoardTold judged text)
    (text ≡ fault_lines judged)

-- The input has a text at least, and this text has the lines on all of them.
pub record IsChecked (bytes text : List ℕ) : Type 0 where
  pub judged : List Judged
  pub some : judged ≢ []
  pub read : AreTexts bytes 1 0 judged
  pub told : IsTold judged text

-- The input has no text, and is refused for this fault.
pub record HasNoText (bytes : List ℕ) (fault : JsonFault) : Type 0 where
  pub blank : is_blank bytes ≡ true
  pub faulty : IsFirstFault bytes 0 fault
