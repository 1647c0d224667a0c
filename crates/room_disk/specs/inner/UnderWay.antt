-- A journal that is read line by line, as far as it has come.
use Rattle.std.specs.Prelude.{◌≡◌, ℕ, List, ◌++◌, length, Option, None, Some, Ok, Err}
use Rattle.elem.specs.ElementValue.{ElementValue}
use Rattle.elem_store.specs.Updates.{AreStored}
use Rattle.room_msg.specs.Messages.{IsReadAs}
use Rattle.room_msg.specs.declared.message.Message.TheVariants.{Update}
use Rattle.scene_file.specs.Heads.{Heading}
use Rattle.input_texts.specs.Lines.{lines_of, begun_of}
use Rattle.room_disk.specs.Recovering.{AreReadAs, AreKept}
use Rattle.room_disk.specs.declared.fault.KeepFault.{KeepFault}
use Rattle.room_disk.specs.declared.recovery.Recovery.{Recovery}

-- The line is an update, and what is stored is the new elements once its elements are taken.
pub record HasTakenLine (old : List ElementValue) (line : List ℕ)
    (new : List ElementValue) : Type 0 where
  pub elements : List ElementValue
  pub read : IsReadAs line (Ok (Update elements))
  pub taken : (updates : List ElementValue) → AreStored updates old
      → AreStored (updates ++ elements) new

-- The lines are faultless and so many, and this is what they were read as; or this is the first
-- fault that was met.
abbrev pub IsReadBy : List (List ℕ) → Heading → List ElementValue → ℕ → Option KeepFault → Type 0
IsReadBy lines head elements count None = AreKept lines head elements × (count ≡ length lines)
IsReadBy lines head elements count (Some fault) = AreReadAs lines (Err fault)

abbrev pub IsReadTo : List (List ℕ) → Recovery → Type 0
IsReadTo lines recovery =
    IsReadBy lines recovery.head recovery.store.elements recovery.lines recovery.fault

-- The lines of the stream so far were read, and these bytes of it stand behind the last one.
pub record StandsIn (stream begun : List ℕ) (recovery : Recovery) : Type 0 where
  pub read : IsReadTo (lines_of stream) recovery
  pub begun_is : begun ≡ begun_of stream
