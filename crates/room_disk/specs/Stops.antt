-- What is recovered of the records of a run, wherever it was stopped. This project's own.
use Rattle.std.specs.Prelude.{◌≡◌, ℕ, zero, suc, ◌≤◌, List, [], ◌++◌, true, length, take, flat_map, All, Result, Ok}
use Rattle.elem.specs.ElementValue.{ElementValue}
use Rattle.elem_read.specs.Reading.{IsWholeElement}
use Rattle.elem_store.specs.Updates.{ids_of, AreStored}
use Rattle.frac_keys.specs.Rising.{are_rising}
use Rattle.scene_file.specs.Heads.{Heading}
use Rattle.scene_file.specs.Whole.{IsWholeHead, HaveKeys}
use Rattle.room_disk.specs.Records.{records_of, bytes_of}
use Rattle.room_disk.specs.Recovering.{Recovered, empty_head}
use Rattle.room_disk.specs.declared.fault.KeepFault.{KeepFault}

-- What a run may begin with whose records are written: its head is whole, and so is each stored
-- element, and has a key.
pub record IsOpening (head : Heading) (stored : List ElementValue) : Type 0 where
  pub whole : IsWholeHead head
  pub elements : All IsWholeElement stored
  pub keys : HaveKeys stored
  pub ordered : are_rising (ids_of stored) ≡ true

-- The answer is the opening head, and the store of the updates of which the opening elements are
-- stored, whatever these are, and then of the first messages, so many of them.
pub record HasFirst (head : Heading) (stored : List ElementValue)
    (messages : List (List ElementValue)) (count : ℕ)
    (answer : Result Recovered KeepFault) : Type 0 where
  pub within : count ≤ length messages
  pub elements : List ElementValue
  pub taken : (updates : List ElementValue) → AreStored updates stored
      → AreStored (updates ++ flat_map (λ es. es) (take count messages)) elements
  pub is : answer ≡ Ok (record { head = head; elements = elements })

-- The answer to the records of a run of which so many are whole: nothing without the first one;
-- else the opening and the messages of the others.
abbrev pub IsAnswerTo : Heading → List ElementValue → List (List ElementValue) → ℕ
    → Result Recovered KeepFault → Type 0
IsAnswerTo head stored messages zero answer =
    answer ≡ Ok (record { head = empty_head; elements = [] })
IsAnswerTo head stored messages (suc count) answer = HasFirst head stored messages count answer

-- The bytes have the first records whole, so many of them.
pub record HaveRecords (bytes : List ℕ) (records : List (List ℕ)) (count : ℕ) : Type 0 where
  pub within : count ≤ length records
  pub long : length (bytes_of (take count records)) ≤ length bytes

-- The answer to bytes is that to some of the first records, of which there are at least as many as
-- the bytes have whole.
pub record IsAnswerAfter (head : Heading) (stored : List ElementValue)
    (messages : List (List ElementValue)) (bytes : List ℕ)
    (answer : Result Recovered KeepFault) : Type 0 where
  pub whole : ℕ
  pub is : IsAnswerTo head stored messages whole answer
  pub all : (count : ℕ) → HaveRecords bytes (records_of head stored messages) count → count ≤ whole
