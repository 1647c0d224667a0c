-- What bytes are read as: a message, or a first fault. After the messages of Excalidraw's
-- collaboration; that a type of another name is kept whole, and the order and places of faults, is
-- this project's own.
use Rattle.std.specs.Prelude.{◌≡◌, ◌≢◌, ◌⊎◌, ℕ, ◌+◌, ◌<◌, ◌≤◌, List, Some, Result, Ok, Err, All, true, codes, length, drop}
use Rattle.std.specs.List.{AllByRecursion, prefix_len}
use Rattle.json_text.specs.Characters.{is_blank, is_space}
use Rattle.json_text.specs.Compact.{Member as Pair, array_text}
use Rattle.json_text.specs.Value.{IsCompact, Stands}
use Rattle.json_reader.specs.Faults.{IsFirstFault}
use Rattle.json_reader.specs.declared.fault.JsonFault.TheVariants.{Syntax}
use Rattle.scene_json.specs.Named.{value_at}
use Rattle.elem.specs.ElementValue.{ElementValue}
use Rattle.elem.specs.Forms.{IsObject, IsText}
use Rattle.elem_read.specs.Elements.{AreRead, IsFirstFaulty}
use Rattle.elem_read.specs.Reading.{IsWholeElement}
use Rattle.room_msg.specs.declared.fault.MsgFault.{MsgFault}
use Rattle.room_msg.specs.declared.fault.MsgFault.TheVariants.{Json, NotObject, Tag, Payload, Element}
use Rattle.room_msg.specs.declared.message.Message.{Message}
use Rattle.room_msg.specs.declared.message.Message.TheVariants.{Init, Update, Presence}

-- the types of the messages that have elements
abbrev pub init_tag : List ℕ
init_tag = codes "SCENE_INIT"

abbrev pub update_tag : List ℕ
update_tag = codes "SCENE_UPDATE"

-- The members have this text as their type.
abbrev pub HasTag : List Pair → List ℕ → Type 0
HasTag members tag = IsText (value_at (codes "type") members) tag

-- Their `payload` is an object whose `elements` is the array of these values.
pub record HasPayload (members : List Pair) (values : List (List ℕ)) : Type 0 where
  pub payload : List ℕ
  pub others : List Pair
  pub named : value_at (codes "payload") members ≡ Some payload
  pub object : IsObject payload others
  pub compact : AllByRecursion (IsCompact 127) values
  pub array : value_at (codes "elements") others ≡ Some (array_text values)

-- The compact text is a message of this type with these elements.
pub record HasElements (text tag : List ℕ) (elements : List ElementValue) : Type 0 where
  pub members : List Pair
  pub object : IsObject text members
  pub tagged : HasTag members tag
  pub values : List (List ℕ)
  pub payload : HasPayload members values
  pub read : AreRead values elements

-- The compact text is a message of a type that asks for no elements.
pub record IsPresence (text : List ℕ) : Type 0 where
  pub members : List Pair
  pub object : IsObject text members
  pub tag : List ℕ
  pub tagged : HasTag members tag
  pub not_init : tag ≢ init_tag
  pub not_update : tag ≢ update_tag

-- The compact text is this message.
abbrev pub IsMessageOf : List ℕ → Message → Type 0
IsMessageOf text (Init elements) = HasElements text init_tag elements
IsMessageOf text (Update elements) = HasElements text update_tag elements
IsMessageOf text (Presence value) = (value ≡ text) × IsPresence text

-- the first fault of members that are to have elements
abbrev pub IsPayloadFault : List Pair → MsgFault → Type 0
IsPayloadFault members Payload = (values : List (List ℕ)) → HasPayload members values → ⊥
IsPayloadFault members (Element place fault) = (values : List (List ℕ)) × HasPayload members values
    × IsFirstFaulty values place fault
IsPayloadFault members other = ⊥

-- the first fault of a compact text that is no message
abbrev pub IsMessageFault : List ℕ → MsgFault → Type 0
IsMessageFault text NotObject = (members : List Pair) → IsObject text members → ⊥
IsMessageFault text Tag =
    (members : List Pair) × IsObject text members × ((tag : List ℕ) → HasTag members tag → ⊥)
IsMessageFault text fault =
    (members : List Pair) × IsObject text members
    × (HasTag members init_tag ⊎ HasTag members update_tag)
    × IsPayloadFault members fault

-- One value stands in the bytes, in whatever spelling, and white space alone around it.
pub record StandsAlone (bytes text : List ℕ) : Type 0 where
  pub rest : List ℕ
  pub stands : Stands bytes text rest
  pub space : is_blank rest ≡ true

-- A value stands at the front, and behind it and white space a further byte, at this offset.
pub record HasMore (bytes : List ℕ) (at : ℕ) : Type 0 where
  pub text : List ℕ
  pub after : ℕ
  pub within : after ≤ length bytes
  pub stands : Stands bytes text (drop after bytes)
  pub behind : at ≡ after + prefix_len is_space (drop after bytes)
  pub more : at < length bytes

-- What the bytes are read as: this message, or this first fault.
abbrev pub IsReadAs : List ℕ → Result Message MsgFault → Type 0
IsReadAs bytes (Ok message) = (text : List ℕ) × StandsAlone bytes text × IsMessageOf text message
IsReadAs bytes (Err (Json fault)) =
    IsFirstFault bytes 0 fault ⊎ ((at : ℕ) × (fault ≡ Syntax at) × HasMore bytes at)
IsReadAs bytes (Err fault) = (text : List ℕ) × StandsAlone bytes text × IsMessageFault text fault

-- Reading the message's text gives the message: its elements are whole, or it is read as no
-- elements.
abbrev pub IsWholeMessage : Message → Type 0
IsWholeMessage (Init elements) = All IsWholeElement elements
IsWholeMessage (Update elements) = All IsWholeElement elements
IsWholeMessage (Presence value) = IsPresence value
