-- What lines of bytes are answered with, one after the other: the first without a fault opens a
-- replica, and the others are for it. This project's own.
use Rattle.std.specs.Prelude.{◌≡◌, ◌⊎◌, ℕ, List, [], ◌∷◌, Option, Some, None, Result, Ok, Err}
use Rattle.json_reader.specs.Faults.{IsFirstFault}
use Rattle.json_reader.specs.declared.fault.JsonFault.{JsonFault}
use Rattle.json_reader.specs.declared.fault.JsonFault.TheVariants.{Syntax}
use Rattle.room_msg.specs.Messages.{HasMore, StandsAlone}
use Rattle.session_text.specs.Faults.{session_fault_words}
use Rattle.session_text.specs.Lines.{LineText, OpeningText}
use Rattle.session_text.specs.declared.fault.TextFault.{TextFault}
use Rattle.session_text.specs.declared.fault.TextFault.TheVariants.{Json}
use Rattle.session_text.specs.declared.lines.Line.{Line}
use Rattle.session_text.specs.declared.lines.Opening.{Opening}
use Rattle.line_replica.specs.Living.{Living, Reply, IsReply, fault_text, opened_as, opened_text, unchanged}

-- ---- a line of bytes
-- The bytes of a line, without its line feed, are no JSON value with white space around it, for this
-- first fault.
abbrev pub IsLineFault : List ℕ → JsonFault → Type 0
IsLineFault bytes fault =
    IsFirstFault bytes 0 fault ⊎ ((at : ℕ) × (fault ≡ Syntax at) × HasMore bytes at)

-- The line is read so, where texts are: by its one value, with white space around it; or it has a
-- fault of its form.
pub data LineReads {A : Type 0} (Says : List ℕ → Result A TextFault → Type 0) (bytes : List ℕ)
    (read : Result A TextFault) : Type 0 where
  says : (text : List ℕ) → StandsAlone bytes text → Says text read → LineReads Says bytes read
  faulty : (fault : JsonFault) → IsLineFault bytes fault → read ≡ Err (Json fault)
      → LineReads Says bytes read

-- ---- its answer
-- what a fault of a line is answered with
abbrev pub faulty_text : TextFault → List ℕ
faulty_text fault = fault_text (session_fault_words fault)

-- what the line is answered with that may open a replica, and what is opened
abbrev pub opening_text : Result Opening TextFault → List ℕ
opening_text (Ok opening) = opened_text
opening_text (Err fault) = faulty_text fault

abbrev pub opened_by : Result Opening TextFault → Option Living
opened_by (Ok opening) = Some (opened_as opening)
opened_by (Err fault) = None

pub record Opens (bytes answer : List ℕ) (new : Option Living) : Type 0 where
  pub read : Result Opening TextFault
  pub reads : LineReads OpeningText bytes read
  pub text : answer ≡ opening_text read
  pub after : new ≡ opened_by read

-- A line for an opened replica, or one with a fault, has this reply.
abbrev pub IsReadReply : Living → Result Line TextFault → Reply → Type 0
IsReadReply l (Ok line) reply = IsReply l line reply
IsReadReply l (Err fault) reply = reply ≡ unchanged (faulty_text fault) l

pub record GoesOn (l : Living) (bytes answer : List ℕ) (new : Option Living) : Type 0 where
  pub read : Result Line TextFault
  pub reads : LineReads LineText bytes read
  pub reply : Reply
  pub is : IsReadReply l read reply
  pub text : answer ≡ reply.text
  pub after : new ≡ Some reply.after

-- A line of bytes is answered with this text, which no line feed ends, and leads from a replica, or
-- none yet, to this.
abbrev pub Answers : Option Living → List ℕ → List ℕ → Option Living → Type 0
Answers None bytes answer new = Opens bytes answer new
Answers (Some l) bytes answer new = GoesOn l bytes answer new

-- ---- several lines
-- The lines are answered with these texts, one by one, and lead there.
abbrev pub AnswersAll : Option Living → List (List ℕ) → List (List ℕ) → Option Living → Type 0
AnswersAll old [] texts new = (texts ≡ []) × (new ≡ old)
AnswersAll old (line ∷ lines) [] new = ⊥
AnswersAll old (line ∷ lines) (text ∷ texts) new =
    (middle : Option Living) × Answers old line text middle × AnswersAll middle lines texts new
