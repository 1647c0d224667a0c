-- What is told of a value that is no message, and of the bytes in which it stands.
use Rattle.std.proofs.Common.{◌≡◌, ◌⊎◌, ℕ, List, Some, Err, true, nat_lt, codes, ap, ◌∙◌}
use Rattle.std.specs.List.{list_all}
use Rattle.json_text.specs.Characters.{quote}
use Rattle.json_text.specs.Compact.{Member as Pair}
use Rattle.json_text.proofs.CallerLemmas.{ascii-utf8}
use Rattle.scene_json.specs.Named.{value_at}
use Rattle.elem.specs.ElementValue.{ElementValue}
use Rattle.elem.specs.Forms.{IsObject}
use Rattle.elem_read.specs.Elements.{AreRead}
use Rattle.room_msg.specs.Messages.{init_tag, update_tag, HasTag, HasPayload, HasElements, IsPresence, IsPayloadFault, IsMessageFault, StandsAlone, IsReadAs}
use Rattle.room_msg.specs.declared.fault.MsgFault.{MsgFault}
use Rattle.room_msg.specs.declared.fault.MsgFault.TheVariants.{Json, NotObject, Tag, Payload, Element}

pub has-tag : (members : List Pair) (tag : List ℕ) → list_all (λ b. nat_lt b 128) tag ≡ true
    → value_at (codes "type") members ≡ Some (quote tag) → HasTag members tag
has-tag members tag ascii found = (ascii-utf8 tag ascii, found)

pub has-elements : (text tag : List ℕ) (members : List Pair) (elements : List ElementValue) → IsObject text members
    → HasTag members tag
    → ((values : List (List ℕ)) × HasPayload members values × AreRead values elements) → HasElements text tag elements
has-elements text tag members elements object has (values, payload, read) =
    record { members = members; object = object; tagged = has; values = values; payload = payload; read = read }

pub presence : (text : List ℕ) (members : List Pair) (tag : List ℕ) → IsObject text members → HasTag members tag
    → (value_at (codes "type") members ≡ Some (quote init_tag) → ⊥)
    → (value_at (codes "type") members ≡ Some (quote update_tag) → ⊥) → IsPresence text
presence text members tag object has not_init not_update = record {
  members = members;
  object = object;
  tag = tag;
  tagged = has;
  not_init = λ same. not_init (has.1 ∙ ap (λ t. Some (quote t)) same);
  not_update = λ same. not_update (has.1 ∙ ap (λ t. Some (quote t)) same);
}

pub payload-fault : (text : List ℕ) (members : List Pair) (fault : MsgFault) → IsObject text members
    → HasTag members init_tag ⊎ HasTag members update_tag → IsPayloadFault members fault → IsMessageFault text fault
payload-fault text members (Json found) object tag is = absurd is
payload-fault text members NotObject object tag is = absurd is
payload-fault text members Tag object tag is = absurd is
payload-fault text members Payload object tag is = (members, object, tag, is)
payload-fault text members (Element place why) object tag is = (members, object, tag, is)

pub fault-alone : (bytes text : List ℕ) (fault : MsgFault) → StandsAlone bytes text → IsMessageFault text fault
    → IsReadAs bytes (Err fault)
fault-alone bytes text (Json found) stands is = absurd is.3
fault-alone bytes text NotObject stands is = (text, stands, is)
fault-alone bytes text Tag stands is = (text, stands, is)
fault-alone bytes text Payload stands is = (text, stands, is)
fault-alone bytes text (Element place why) stands is = (text, stands, is)
