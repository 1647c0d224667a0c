-- Each list of bytes is read as a message or has a first fault, and what is read is whole.
use Rattle.std.proofs.Common.{◌≡◌, ◌⊎◌, inl, inr, ℕ, List, Option, Some, None, Result, Ok, Err, length, drop, length-drop, ◌+◌, codes, bytes_eq, refl, sym, ap, subst, ◌∙◌, lit≤, arith}
use Rattle.std.specs.List.{AllByRecursion, prefix_len}
use Rattle.std.proofs.lemmas.Bool.{cases_Bool, cases_lt, both_ways}
use Rattle.std.proofs.lemmas.Option.{same_Some}
use Rattle.json_text.specs.Characters.{is_space}
use Rattle.json_text.specs.Compact.{Member as Pair, array_text}
use Rattle.json_text.specs.Parts.{AreMembers}
use Rattle.json_text.specs.Value.{IsCompact}
use Rattle.json_reader.specs.declared.fault.JsonFault.TheVariants.{Syntax}
use Rattle.scene_json.specs.Named.{value_at}
use Rattle.json_text.proofs.CallerLemmas.{bytes_eq-true, bytes_eq-same, Value-compact, array-or-not, object-or-not, run-blank}
use Rattle.json_reader.proofs.CallerLemmas.{value-or-fault}
use Rattle.elem.specs.ElementValue.{ElementValue}
use Rattle.elem.specs.Forms.{IsObject}
use Rattle.elem.proofs.CallerLemmas.{members-once}
use Rattle.elem_read.specs.Elements.{AreRead}
use Rattle.elem_read.proofs.CallerLemmas.{Decided, Fits, fits-in, text-or-not, read-or-faulty, All-whole}
use Rattle.room_msg.specs.Messages.{init_tag, update_tag, HasTag, HasPayload, IsMessageOf, IsMessageFault, IsPayloadFault, StandsAlone, IsReadAs, IsWholeMessage}
use Rattle.room_msg.specs.declared.fault.MsgFault.{MsgFault}
use Rattle.room_msg.specs.declared.fault.MsgFault.TheVariants.{Json, NotObject, Tag, Payload, Element}
use Rattle.room_msg.specs.declared.message.Message.{Message}
use Rattle.room_msg.specs.declared.message.Message.TheVariants.{Init, Update, Presence}

-- ---- the payload
object-found : (found : Option (List ℕ)) → Fits found → ((value : List ℕ) × (members : List Pair) × (found ≡ Some value)
    × IsObject value members) ⊎ ((value : List ℕ) (members : List Pair) → found ≡ Some value → IsObject value members
    → ⊥)
object-found None fits = inr (λ value members e is. cc)
object-found (Some value) fits = elim (object-or-not value fits) [
  | inl (members, are, e) ↦ inl (value, members, refl, record { are_members = are; spelled = e })
  | inr none ↦ inr (λ other members e is. none members (same_Some _ _ e ∙ is.spelled))
]

array-found : (found : Option (List ℕ)) → Fits found
    → Decided (λ (values : List (List ℕ)). AllByRecursion (IsCompact 127) values × (found ≡ Some (array_text values)))
array-found None fits = inr (λ values has. let e = has.1 in cc)
array-found (Some value) fits = elim (array-or-not value fits) [
  | inl (values, all, e) ↦ inl (values, (all, ap Some e))
  | inr none ↦ inr (λ values has. none values (same_Some _ _ has.1))
]

payload-or-not : (members : List Pair) → AreMembers 127 members → Decided (HasPayload members)
payload-or-not members are =
    by (object-found (value_at (codes "payload") members) (fits-in 127 members (lit≤ tt) are (codes "payload")))
  where
    inner : (payload : List ℕ) (others : List Pair) → value_at (codes "payload") members ≡ Some payload
        → IsObject payload others → Decided (HasPayload members)
    inner payload others named object =
        elim (array-found (value_at (codes "elements") others)
        (fits-in 127 others (lit≤ tt) object.are_members (codes "elements"))) [
          | inl (values, (all, e)) ↦ inl (
            values,
            record {
              payload = payload;
              others = others;
              named = named;
              object =
                  object;
              compact = all;
              array = e;
            },
          )
          | inr none ↦ inr (λ values has.
              let text = same_Some _ _ (sym has.named ∙ named) in
              let same =
              members-once payload has.others others (subst (λ t. IsObject t has.others) text has.object) object in
              none values (has.compact, sym (ap (value_at (codes "elements")) same) ∙ has.array))
        ]

    by : ((payload : List ℕ) × (others : List Pair) × (value_at (codes "payload") members ≡ Some payload)
        × IsObject payload others)
        ⊎ ((payload : List ℕ) (others : List Pair) → value_at (codes "payload") members ≡ Some payload
        → IsObject payload others → ⊥)
        → Decided (HasPayload members)
    by (inl (payload, others, named, object)) = inner payload others named object
    by (inr none) = inr (λ values has. none has.payload has.others has.named has.object)

-- what members are read as that are to have elements
abbrev ElementsTold : List Pair → Type 0
ElementsTold members = ((values : List (List ℕ)) × (elements : List ElementValue) × HasPayload members values
    × AreRead values elements) ⊎ ((fault : MsgFault) × IsPayloadFault members fault)

elements-or-faulty : (members : List Pair) → AreMembers 127 members → ElementsTold members
elements-or-faulty members are = elim (payload-or-not members are) [
  | inr none ↦ inr (Payload, none)
  | inl (values, has) ↦ elim (read-or-faulty values has.compact) [
    | inl (elements, read) ↦ inl (values, elements, has, read)
    | inr (place, why, first) ↦ inr (Element place why, (values, has, first))
  ]
]

-- ---- values
abbrev Told : List ℕ → Type 0
Told text = ((message : Message) × IsMessageOf text message) ⊎ ((fault : MsgFault) × IsMessageFault text fault)

payload-fault : (text : List ℕ) (members : List Pair) (fault : MsgFault) → IsObject text members
    → (HasTag members init_tag ⊎ HasTag members update_tag) → IsPayloadFault members fault → IsMessageFault text fault
payload-fault text members (Json found) object tagged is = absurd is
payload-fault text members NotObject object tagged is = absurd is
payload-fault text members Tag object tagged is = absurd is
payload-fault text members Payload object tagged is = (members, object, tagged, is)
payload-fault text members (Element place why) object tagged is = (members, object, tagged, is)

init-told : (text : List ℕ) (members : List Pair) → IsObject text members → HasTag members init_tag → Told text
init-told text members object tagged = elim (elements-or-faulty members object.are_members) [
  | inl (values, elements, has, read) ↦ inl (
    Init elements,
    record { members = members; object = object; tagged = tagged; values = values; payload = has; read = read },
  )
  | inr (fault, is) ↦ inr (fault, payload-fault text members fault object (inl tagged) is)
]

update-told : (text : List ℕ) (members : List Pair) → IsObject text members → HasTag members update_tag → Told text
update-told text members object tagged = elim (elements-or-faulty members object.are_members) [
  | inl (values, elements, has, read) ↦ inl (
    Update elements,
    record { members = members; object = object; tagged = tagged; values = values; payload = has; read = read },
  )
  | inr (fault, is) ↦ inr (fault, payload-fault text members fault object (inr tagged) is)
]

tagged-told : (text : List ℕ) (members : List Pair) (tag : List ℕ) → IsObject text members → HasTag members tag
    → Told text
tagged-told text members tag object tagged = elim (cases_Bool (bytes_eq tag init_tag)) [
  | inl e ↦ init-told text members object (subst (HasTag members) (bytes_eq-true tag init_tag e) tagged)
  | inr no_init ↦ elim (cases_Bool (bytes_eq tag update_tag)) [
    | inl e ↦ update-told text members object (subst (HasTag members) (bytes_eq-true tag update_tag e) tagged)
    | inr no_update ↦ inl (
      Presence text,
      (
        refl,
        record {
          members = members;
          object = object;
          tag = tag;
          tagged = tagged;
          not_init =
              λ e. both_ways (bytes_eq tag init_tag) no_init (ap (λ t. bytes_eq t init_tag) e ∙ bytes_eq-same init_tag);
          not_update = λ e. both_ways (bytes_eq tag update_tag) no_update (ap (λ t. bytes_eq t update_tag) e
              ∙ bytes_eq-same update_tag);
        },
      ),
    )
  ]
]

value-told : (text : List ℕ) → IsCompact 128 text → Told text
value-told text is = elim (object-or-not text is) [
  | inr none ↦ inr (NotObject, λ members object. none members object.spelled)
  | inl (members, are, e) ↦
      let object : IsObject text members = record { are_members = are; spelled = e } in
      elim (text-or-not (value_at (codes "type") members) (fits-in 127 members (lit≤ tt) are (codes "type"))) [
        | inr none ↦ inr (Tag, (members, object, none))
        | inl (tag, tagged) ↦ tagged-told text members tag object tagged
      ]
]

-- ---- bytes
abbrev Read : List ℕ → Type 0
Read bytes = (answer : Result Message MsgFault) × IsReadAs bytes answer

faulty : (bytes text : List ℕ) (fault : MsgFault) → StandsAlone bytes text → IsMessageFault text fault → Read bytes
faulty bytes text (Json found) alone is = absurd is.3
faulty bytes text NotObject alone is = (Err NotObject, (text, alone, is))
faulty bytes text Tag alone is = (Err Tag, (text, alone, is))
faulty bytes text Payload alone is = (Err Payload, (text, alone, is))
faulty bytes text (Element place why) alone is = (Err (Element place why), (text, alone, is))

alone-told : (bytes text : List ℕ) → StandsAlone bytes text → Read bytes
alone-told bytes text alone = elim (value-told text (Value-compact alone.stands.reads)) [
  | inl (message, is) ↦ (Ok message, (text, alone, is))
  | inr (fault, is) ↦ faulty bytes text fault alone is
]

pub message-or-fault : (bytes : List ℕ) → Read bytes
message-or-fault bytes = elim (value-or-fault bytes 0 (omega arith)) [
  | inr (fault, is) ↦ (Err (Json fault), inl is)
  | inl (text, end, within, stands) ↦ elim (cases_lt (end + prefix_len is_space (drop end bytes)) (length bytes)) [
    | inl more ↦ (
      Err (Json (Syntax (end + prefix_len is_space (drop end bytes)))),
      inr (
        _,
        refl,
        record {
          text = text;
          after = end;
          within = within;
          stands = stands;
          behind = refl;
          more =
              more;
        },
      ),
    )
    | inr none ↦ alone-told bytes text (record {
      rest = drop end bytes;
      stands = stands;
      space =
          run-blank (drop end bytes) (omega (arith, within, none, length-drop end bytes));
    })
  ]
]

pub whole-message : (bytes : List ℕ) (message : Message) → IsReadAs bytes (Ok message) → IsWholeMessage message
whole-message bytes (Init elements) is = let told = is.2 in All-whole told.values elements told.read
whole-message bytes (Update elements) is = let told = is.2 in All-whole told.values elements told.read
whole-message bytes (Presence value) is =
    let told = is.2 in subst (λ v. IsWholeMessage (Presence v)) (sym told.0) told.1
