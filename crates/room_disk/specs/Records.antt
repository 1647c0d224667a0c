-- The records that a room which is kept writes. This project's own.
use Rattle.std.specs.Prelude.{ℕ, List, [], ◌∷◌, ◌++◌, map, flat_map}
use Rattle.elem.specs.ElementValue.{ElementValue}
use Rattle.room_msg.specs.Texts.{message_text}
use Rattle.room_msg.specs.declared.message.Message.TheVariants.{Update}
use Rattle.scene_file.specs.Heads.{Heading}
use Rattle.scene_file.specs.Scenes.{state_text}

-- a record: a compact text and a line feed
abbrev pub record_of : List ℕ → List ℕ
record_of text = text ++ 10 ∷ []

-- the record of all that is stored, under its head
abbrev pub opening_record : Heading → List ElementValue → List ℕ
opening_record head stored = record_of (state_text head stored)

-- the record of a message: the text of an update with its elements
abbrev pub update_record : List ElementValue → List ℕ
update_record elements = record_of (message_text (Update elements))

-- The records of a run: what was stored when it began, and then each message, in order, of which
-- the elements are given.
abbrev pub records_of : Heading → List ElementValue → List (List ElementValue) → List (List ℕ)
records_of head stored messages = opening_record head stored ∷ map update_record messages

-- the bytes of records, one after the other
abbrev pub bytes_of : List (List ℕ) → List ℕ
bytes_of records = flat_map (λ bytes. bytes) records
