-- The text of a message. After the messages of Excalidraw's collaboration.
use Rattle.std.specs.Prelude.{ℕ, List, [], ◌∷◌, map, codes}
use Rattle.json_text.specs.Characters.{quote}
use Rattle.json_text.specs.Compact.{Member as Pair, array_text, object_text}
use Rattle.elem.specs.ElementValue.{ElementValue}
use Rattle.elem.specs.Texts.{element_text}
use Rattle.room_msg.specs.Messages.{init_tag, update_tag}
use Rattle.room_msg.specs.declared.message.Message.{Message}
use Rattle.room_msg.specs.declared.message.Message.TheVariants.{Init, Update, Presence}

-- the members of a message of this type with these elements
abbrev pub tagged_members : List ℕ → List ElementValue → List Pair
tagged_members tag elements =
    (codes "type", quote tag) ∷ (
      codes "payload",
      object_text ((codes "elements", array_text (map element_text elements)) ∷ []),
    ) ∷ []

-- of a presence the text that it came as
unfoldable pub message_text : Message → List ℕ
message_text (Init elements) = object_text (tagged_members init_tag elements)
message_text (Update elements) = object_text (tagged_members update_tag elements)
message_text (Presence value) = value
