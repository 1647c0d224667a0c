-- Bytes are read as one message alone, or have one first fault.
use Rattle.std.proofs.Common.{◌≡◌, ◌≢◌, inl, inr, ℕ, List, Result, Ok, Err, codes, length, drop, bytes_eq, refl, sym, ap, ap₂, subst, ◌∙◌, arith, length-drop}
use Rattle.std.specs.List.{prefix_len}
use Rattle.std.proofs.lemmas.Bool.{false≢true}
use Rattle.std.proofs.lemmas.Option.{same_Some}
use Rattle.json_text.specs.Characters.{is_blank, is_space}
use Rattle.json_text.specs.Compact.{Member as Pair, array_text}
use Rattle.json_reader.specs.Faults.{IsFirstFault}
use Rattle.json_reader.specs.declared.fault.JsonFault.{JsonFault}
use Rattle.json_reader.specs.declared.fault.JsonFault.TheVariants.{Syntax}
use Rattle.scene_json.specs.Named.{value_at}
use Rattle.json_text.proofs.CallerLemmas.{Stands-once, blank-run}
use Rattle.json_reader.proofs.CallerLemmas as json
use Rattle.elem.specs.ElementValue.{ElementValue}
use Rattle.elem.specs.Forms.{IsObject}
use Rattle.elem.proofs.CallerLemmas.{text-once, members-once, array-once}
use Rattle.elem_read.specs.Elements.{AreRead, IsFirstFaulty}
use Rattle.elem_read.specs.declared.fault.ElemFault.{ElemFault}
use Rattle.elem_read.proofs.CallerLemmas.{read-once, faulty-once, faultless}
use Rattle.room_msg.specs.Messages.{init_tag, update_tag, HasTag, HasPayload, IsMessageOf, IsMessageFault, StandsAlone, HasMore, IsReadAs}
use Rattle.room_msg.specs.declared.fault.MsgFault.{MsgFault}
use Rattle.room_msg.specs.declared.fault.MsgFault.TheVariants.{Json, NotObject, Tag, Payload, Element}
use Rattle.room_msg.specs.declared.message.Message.{Message}
use Rattle.room_msg.specs.declared.message.Message.TheVariants.{Init, Update, Presence}

abbrev Answer : Type 0
Answer = Result Message MsgFault

abbrev refused : MsgFault → Answer
refused fault = Err fault

abbrev given : Message → Answer
given message = Ok message

-- ---- elements
payload-once : (members : List Pair) (vs ws : List (List ℕ)) → HasPayload members vs → HasPayload members ws → vs ≡ ws
payload-once members vs ws one two =
    let text = same_Some one.payload two.payload (sym one.named ∙ two.named) in
    let inner = members-once two.payload one.others two.others (subst (λ t. IsObject t one.others) text one.object)
    two.object in
    array-once vs ws one.compact two.compact
    (same_Some (array_text vs) (array_text ws) (sym one.array ∙ ap (value_at (codes "elements")) inner ∙ two.array))

-- what members are read as that are to have elements
data Carried (members : List Pair) (make : List ElementValue → Message) (answer : Answer) : Type 0 where
  none : answer ≡ Err Payload → ((values : List (List ℕ)) → HasPayload members values → ⊥) → Carried members make answer
  faulty : (values : List (List ℕ)) (place : ℕ) (why : ElemFault) → HasPayload members values
      → answer ≡ Err (Element place why) → IsFirstFaulty values place why → Carried members make answer
  read : (values : List (List ℕ)) (elements : List ElementValue) → HasPayload members values
      → answer ≡ Ok (make elements) → AreRead values elements → Carried members make answer

carried-once : (members : List Pair) (make : List ElementValue → Message) (a b : Answer) → Carried members make a
    → Carried members make b → a ≡ b
carried-once members make a b (none e one) (none f two) = e ∙ sym f
carried-once members make a b (none e one) (faulty ws place why has f two) = absurd (one ws has)
carried-once members make a b (none e one) (read ws fs has f two) = absurd (one ws has)
carried-once members make a b (faulty vs place why has e one) (none f two) = absurd (two vs has)
carried-once members make a b (faulty vs place why has e one) (faulty ws place' why' has' f two) =
    let same = payload-once members ws vs has' has in
    let both = faulty-once vs place place' why why' one (subst (λ us. IsFirstFaulty us place' why') same two) in
    e ∙ (ap₂ (λ p w. refused (Element p w)) both.0 both.1 ∙ sym f)
carried-once members make a b (faulty vs place why has e one) (read ws fs has' f two) =
    absurd (faultless ws fs place why two
    (subst (λ us. IsFirstFaulty us place why) (payload-once members vs ws has has') one))
carried-once members make a b (read vs es has e one) (none f two) = absurd (two vs has)
carried-once members make a b (read vs es has e one) (faulty ws place why has' f two) =
    absurd (faultless vs es place why one
    (subst (λ us. IsFirstFaulty us place why) (payload-once members ws vs has' has) two))
carried-once members make a b (read vs es has e one) (read ws fs has' f two) =
    let same = read-once vs es fs one (subst (λ us. AreRead us fs) (payload-once members ws vs has' has) two) in
    e ∙ (ap (λ elements. given (make elements)) same ∙ sym f)

-- ---- types
tags-apart : init_tag ≡ update_tag → ⊥
tags-apart e = false≢true (sym (ap (bytes_eq init_tag) e))

data ByTag (text : List ℕ) (members : List Pair) (tag : List ℕ) (answer : Answer) : Type 0 where
  init : tag ≡ init_tag → Carried members Init answer → ByTag text members tag answer
  update : tag ≡ update_tag → Carried members Update answer → ByTag text members tag answer
  plain : tag ≢ init_tag → tag ≢ update_tag → answer ≡ Ok (Presence text) → ByTag text members tag answer

by-tag-once : (text : List ℕ) (members : List Pair) (tag : List ℕ) (a b : Answer) → ByTag text members tag a
    → ByTag text members tag b → a ≡ b
by-tag-once text members tag a b (init t one) (init u two) = carried-once members Init a b one two
by-tag-once text members tag a b (init t one) (update u two) = absurd (tags-apart (sym t ∙ u))
by-tag-once text members tag a b (init t one) (plain n m f) = absurd (n t)
by-tag-once text members tag a b (update t one) (init u two) = absurd (tags-apart (sym u ∙ t))
by-tag-once text members tag a b (update t one) (update u two) = carried-once members Update a b one two
by-tag-once text members tag a b (update t one) (plain n m f) = absurd (m t)
by-tag-once text members tag a b (plain n m e) (init u two) = absurd (n u)
by-tag-once text members tag a b (plain n m e) (update u two) = absurd (m u)
by-tag-once text members tag a b (plain n m e) (plain o p f) = e ∙ sym f

data Typed (text : List ℕ) (members : List Pair) (answer : Answer) : Type 0 where
  untagged : answer ≡ Err Tag → ((tag : List ℕ) → HasTag members tag → ⊥) → Typed text members answer
  tagged : (tag : List ℕ) → HasTag members tag → ByTag text members tag answer → Typed text members answer

typed-once : (text : List ℕ) (members : List Pair) (a b : Answer) → Typed text members a → Typed text members b → a ≡ b
typed-once text members a b (untagged e one) (untagged f two) = e ∙ sym f
typed-once text members a b (untagged e one) (tagged tag has two) = absurd (one tag has)
typed-once text members a b (tagged tag has one) (untagged f two) = absurd (two tag has)
typed-once text members a b (tagged tag has one) (tagged tag' has' two) =
    let same = text-once (value_at (codes "type") members) tag' tag has' has in
    by-tag-once text members tag a b one (subst (λ t. ByTag text members t b) same two)

-- ---- values
data OfValue (text : List ℕ) (answer : Answer) : Type 0 where
  apart : answer ≡ Err NotObject → ((members : List Pair) → IsObject text members → ⊥) → OfValue text answer
  object : (members : List Pair) → IsObject text members → Typed text members answer → OfValue text answer

of_value-once : (text : List ℕ) (a b : Answer) → OfValue text a → OfValue text b → a ≡ b
of_value-once text a b (apart e one) (apart f two) = e ∙ sym f
of_value-once text a b (apart e one) (object ns is two) = absurd (one ns is)
of_value-once text a b (object ms is one) (apart f two) = absurd (two ms is)
of_value-once text a b (object ms is one) (object ns are two) =
    typed-once text ms a b one (subst (λ os. Typed text os b) (members-once text ns ms are is) two)

is-message : (text : List ℕ) (message : Message) → IsMessageOf text message → OfValue text (Ok message)
is-message text (Init elements) m =
    object m.members m.object (tagged init_tag m.tagged (init refl (read m.values elements m.payload refl m.read)))
is-message text (Update elements) m =
    object m.members m.object (tagged update_tag m.tagged (update refl (read m.values elements m.payload refl m.read)))
is-message text (Presence value) m =
    object m.1.members m.1.object (tagged m.1.tag m.1.tagged
    (plain m.1.not_init m.1.not_update (ap (λ v. given (Presence v)) m.0)))

is-fault : (text : List ℕ) (fault : MsgFault) → IsMessageFault text fault → OfValue text (Err fault)
is-fault text (Json found) is = absurd is.3
is-fault text NotObject is = apart refl is
is-fault text Tag is = object is.0 is.1 (untagged refl is.2)
is-fault text Payload (ms, is, inl tag, lacks) = object ms is (tagged init_tag tag (init refl (none refl lacks)))
is-fault text Payload (ms, is, inr tag, lacks) = object ms is (tagged update_tag tag (update refl (none refl lacks)))
is-fault text (Element place why) (ms, is, inl tag, (vs, has, first)) =
    object ms is (tagged init_tag tag (init refl (faulty vs place why has refl first)))
is-fault text (Element place why) (ms, is, inr tag, (vs, has, first)) =
    object ms is (tagged update_tag tag (update refl (faulty vs place why has refl first)))

-- ---- bytes
data OfBytes (bytes : List ℕ) (answer : Answer) : Type 0 where
  form : (found : JsonFault) → answer ≡ Err (Json found) → IsFirstFault bytes 0 found → OfBytes bytes answer
  more : (at : ℕ) → answer ≡ Err (Json (Syntax at)) → HasMore bytes at → OfBytes bytes answer
  alone : (text : List ℕ) → StandsAlone bytes text → OfValue text answer → OfBytes bytes answer

pub more-once : (bytes : List ℕ) (at other : ℕ) → HasMore bytes at → HasMore bytes other → at ≡ other
more-once bytes at other one two =
    let rest = (Stands-once one.stands two.stands).1 in
    let run = ap (prefix_len is_space) rest in
    omega (
      arith,
      one.within,
      two.within,
      one.behind,
      two.behind,
      run,
      ap length rest,
      length-drop one.after bytes,
      length-drop two.after bytes,
    )

pub more-alone : (bytes text : List ℕ) (at : ℕ) → HasMore bytes at → StandsAlone bytes text → ⊥
more-alone bytes text at one two =
    let rest = (Stands-once one.stands two.stands).1 in
    blank-run (drop one.after bytes) (ap is_blank rest ∙ two.space)
    (omega (arith, one.within, one.behind, one.more, length-drop one.after bytes))

of_bytes-once : (bytes : List ℕ) (a b : Answer) → OfBytes bytes a → OfBytes bytes b → a ≡ b
of_bytes-once bytes a b (form found e one) (form why f two) =
    e ∙ (ap (λ j. refused (Json j)) (json.fault-once bytes 0 found why one.first two.first) ∙ sym f)
of_bytes-once bytes a b (form found e one) (more at f two) =
    absurd (one.faulty two.text (drop two.after bytes) two.stands)
of_bytes-once bytes a b (form found e one) (alone text two is) = absurd (one.faulty text two.rest two.stands)
of_bytes-once bytes a b (more at e one) (form found f two) =
    absurd (two.faulty one.text (drop one.after bytes) one.stands)
of_bytes-once bytes a b (more at e one) (more at' f two) =
    e ∙ (ap (λ n. refused (Json (Syntax n))) (more-once bytes at at' one two) ∙ sym f)
of_bytes-once bytes a b (more at e one) (alone text two is) = absurd (more-alone bytes text at one two)
of_bytes-once bytes a b (alone text one is) (form found f two) = absurd (two.faulty text one.rest one.stands)
of_bytes-once bytes a b (alone text one is) (more at f two) = absurd (more-alone bytes text at two one)
of_bytes-once bytes a b (alone text one is) (alone text' two are) =
    of_value-once text a b is (subst (λ t. OfValue t b) (Stands-once two.stands one.stands).0 are)

of-bytes : (bytes : List ℕ) (answer : Answer) → IsReadAs bytes answer → OfBytes bytes answer
of-bytes bytes (Ok message) is = alone is.0 is.1 (is-message is.0 message is.2)
of-bytes bytes (Err (Json fault)) (inl first) = form fault refl first
of-bytes bytes (Err (Json fault)) (inr (at, same, behind)) = more at (ap (λ j. refused (Json j)) same) behind
of-bytes bytes (Err NotObject) is = alone is.0 is.1 (is-fault is.0 NotObject is.2)
of-bytes bytes (Err Tag) is = alone is.0 is.1 (is-fault is.0 Tag is.2)
of-bytes bytes (Err Payload) is = alone is.0 is.1 (is-fault is.0 Payload is.2)
of-bytes bytes (Err (Element place why)) is = alone is.0 is.1 (is-fault is.0 (Element place why) is.2)

pub answer-once : (bytes : List ℕ) (answer other : Answer) → IsReadAs bytes answer → IsReadAs bytes other
    → answer ≡ other
answer-once bytes answer other one two =
    of_bytes-once bytes answer other (of-bytes bytes answer one) (of-bytes bytes other two)
