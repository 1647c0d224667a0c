-- Each text of a session is read as one thing, or has one first fault; and what holds of what is read.
use Rattle.std.proofs.Common.{◌≡◌, ℕ, ◌≤◌, ◌<◌, List, Option, Result, Ok, Err, codes, subst, arith, lit≤, IsUtf8}
use Rattle.json_text.specs.Compact.{Member as Pair}
use Rattle.json_text.specs.Parts.{AreMembers}
use Rattle.json_text.specs.Value.{IsCompact}
use Rattle.json_reader.specs.declared.fault.JsonFault.{JsonFault}
use Rattle.scene_json.specs.Named.{value_at}
use Rattle.elem.specs.ElementValue.{ElementValue}
use Rattle.elem.specs.Facts.{greatest_whole, IsElement}
use Rattle.elem.specs.Forms.{IsObject}
use Rattle.elem.specs.Order.{HaveDistinctIds}
use Rattle.elem.specs.Said.{HasValidTexts, AreElements}
use Rattle.elem.proofs.CallerLemmas.{members-once}
use Rattle.elem_read.proofs.CallerLemmas.{Fits, fits-in}
use Rattle.board_commands.specs.Limits.{IsWithinLimits}
use Rattle.board_commands.specs.Written.{IsWrittenCommand}
use Rattle.board_commands.specs.declared.command.Command.{Command}
use Rattle.board_commands.specs.declared.command.Side.{Side}
use Rattle.clips.specs.declared.clip.Clip.{Clip}
use Rattle.scene_file.specs.Reading.{value_unless_null}
use Rattle.scene_file.proofs.CallerLemmas.{fits-value_unless_null}
use Rattle.session_text.specs.Commands.{ElementOf, ClipOf, IdsAnd, EndOf, CommandNamed, CommandOf}
use Rattle.session_text.specs.Events.{HeaderOf, TimeOf, HeldOf, CommandIn, ElementsIn, EventNamed, EventOf, HeaderText, EventText}
use Rattle.session_text.specs.Facts.{IsAmong, IsEventWithinLimits, BringsElements, PicksMade}
use Rattle.session_text.specs.Names.{word_of}
use Rattle.session_text.specs.Reads.{MemberOf, ObjectOf}
use Rattle.session_text.specs.Reads.Then.{goes_on, ends}
use Rattle.session_text.specs.declared.command.Asked.{Asked}
use Rattle.session_text.specs.declared.command.Asked.TheVariants as asked
use Rattle.session_text.specs.declared.event.Event.{Event}
use Rattle.session_text.specs.declared.fault.TextFault.{TextFault}
use Rattle.session_text.specs.declared.fault.TextFault.TheVariants as faults
use Rattle.session_text.specs.declared.fault.TextFault.TheVariants.{Json}
use Rattle.session_text.specs.declared.happening.Happening.{Happening}
use Rattle.session_text.specs.declared.happening.Happening.TheVariants as happenings
use Rattle.session_text.specs.declared.header.Header.{Header}
use Rattle.session_text.specs.declared.name.MemberName.{MemberName}
use Rattle.session_text.specs.declared.name.MemberName.TheVariants as names
use Rattle.session_text.proofs.Brought.{IsSceneKept, rest-kept, rest-written, picks-made}
use Rattle.session_text.proofs.FormsOne.{IsClear, object-decided, wholes, froms, texts, values, arrays, objects, shallow, ids, captures, sides, spots, rests, picked, told}
use Rattle.session_text.proofs.Readings.{IsOne, IsRead, apart, gives-read, or-read, then-read}
use Rattle.session_text.proofs.Values.{scene-read, clip-read, drawn-read, drawings-read}
use Rattle.session_text.proofs.Words.{asked-told, happenings-told}

-- ---- the text of an object whose members are read so
module _ {A : Type 0} {Kept : A → Type 0} (Says : List Pair → Result A TextFault → Type 0)
    (read : (members : List Pair) → AreMembers 127 members → IsRead Kept (Says members)) where
  pub object-one : (text : List ℕ) → IsCompact 128 text → IsOne (ObjectOf Says text)
  object-one text compact = (then-read
      (or-read (IsObject text) faults.NotObject (object-decided text compact) (members-once text) (λ found e. cc))
      (λ members object. read members object.are_members)).one

  pub object-kept : (text : List ℕ) (x : A) → ObjectOf Says text (Ok x) → Kept x
  object-kept text x (goes_on members object says) = (read members object.are_members).holds x says
  object-kept text x (ends fault is e) = absurd (apart x fault e)

  pub object-formed : (text : List ℕ) (found : JsonFault) → ObjectOf Says text (Err (Json found)) → ⊥
  object-formed text found (goes_on members object says) = (read members object.are_members).formed found says
  object-formed text found (ends fault is e) = let not : fault ≡ faults.NotObject = is.1 in cc

-- what holds of a command
abbrev pub IsCommandKept : Command → Type 0
IsCommandKept command = IsWithinLimits command × IsWrittenCommand command

-- ---- members
module _ (members : List Pair) (are : AreMembers 127 members) where
  pub member-read : {A : Type 0} {IsForm : Option (List ℕ) → A → Type 0} → IsClear IsForm → (name : MemberName)
      → IsRead (IsForm (value_at (word_of name) members)) (MemberOf name IsForm members)
  member-read {IsForm = IsForm} clear name =
      let found = value_at (word_of name) members in
      or-read (IsForm found) (faults.Member name)
      (clear.decided found (fits-in 127 members (lit≤ tt) are (word_of name))) (clear.once found) (λ json e. cc)

  element-read : IsRead (λ (e : ElementValue). IsElement e × HasValidTexts e) (ElementOf members)
  element-read = then-read (member-read values names.Element)
      (λ value is. drawn-read value (subst Fits is (fits-in 127 members (lit≤ tt) are (codes "element"))))

  clip_of-read : IsRead (λ (clip : Clip). HaveDistinctIds clip.elements × AreElements clip.elements) (ClipOf members)
  clip_of-read = then-read (member-read values names.Clip)
      (λ value is. clip-read value (subst Fits is (fits-in 127 members (lit≤ tt) are (codes "clip"))))

  ids_and-read : (name : MemberName) → IsRead (λ (both : List (List ℕ) × List ℕ). IsUtf8 both.1) (IdsAnd name members)
  ids_and-read name =
      then-read (member-read ids names.Ids) (λ ids is. then-read (member-read texts name)
      (λ text also. gives-read (ids, text) also.0))

  end-read : IsRead (λ (bound : List ℕ × Side). IsUtf8 bound.0) (EndOf members)
  end-read =
      then-read (member-read texts names.Arrow) (λ arrow is. then-read (member-read sides names.End)
      (λ side also. gives-read (arrow, side) is.0))

  pub elements_in-read : IsRead AreElements (ElementsIn members)
  elements_in-read = then-read (member-read arrays names.Elements) (λ values is. drawings-read values is.0)

  -- ---- commands
  named-read : (name : Asked) → IsRead IsCommandKept (CommandNamed members name)
  named-read asked.Create =
      then-read element-read (λ e is. then-read (member-read spots names.Spot) (λ spot also. gives-read _ (tt, is)))
  named-read asked.Set =
      then-read (member-read texts names.Id) (λ id is. then-read (member-read texts names.Member)
      (λ name also. then-read (member-read shallow names.Value) (λ value too. gives-read _ (too.1, also.0))))
  named-read asked.Delete = then-read (member-read ids names.Ids) (λ ids is. gives-read _ (tt, tt))
  named-read asked.Place =
      then-read (member-read texts names.Id) (λ id is. then-read (member-read spots names.Spot)
      (λ spot also. gives-read _ (tt, tt)))
  named-read asked.Bind =
      let found = value_at (codes "binding") members in
      then-read end-read (λ bound is. then-read (member-read texts names.Target)
      (λ target also. then-read (member-read rests names.Binding)
      (λ rest too. gives-read _ (rest-kept found rest too, (is, also.0, rest-written found rest too)))))
  named-read asked.Unbind = then-read end-read (λ bound is. gives-read _ (tt, tt))
  named-read asked.Label =
      then-read (member-read texts names.Container) (λ container is. then-read (member-read texts names.Text)
      (λ text also. gives-read _ (tt, (is.0, also.0))))
  named-read asked.Unlabel = then-read (member-read texts names.Text) (λ text is. gives-read _ (tt, tt))
  named-read asked.Frame = then-read (ids_and-read names.Frame) (λ framed is. gives-read _ (tt, is))
  named-read asked.Unframe = then-read (member-read ids names.Ids) (λ ids is. gives-read _ (tt, tt))
  named-read asked.Group = then-read (ids_and-read names.Group) (λ grouped is. gives-read _ (tt, is))
  named-read asked.Ungroup = then-read (ids_and-read names.Group) (λ grouped is. gives-read _ (tt, tt))
  named-read asked.Duplicate =
      then-read (ids_and-read names.Prefix) (λ copied is. then-read (member-read spots names.Spot)
      (λ spot also. gives-read _ (tt, is)))
  named-read asked.Paste =
      then-read clip_of-read (λ clip is. then-read (member-read texts names.Prefix)
      (λ prefix also. then-read (member-read spots names.Spot)
      (λ spot too. gives-read _ (is.0, (is.1, also.0)))))

  command-read : IsRead IsCommandKept (CommandOf members)
  command-read = then-read (member-read (told _ _ asked-told) names.Name) (λ name is. named-read name)

pub command_in-read : (members : List Pair) → AreMembers 127 members → IsRead IsCommandKept (CommandIn members)
command_in-read members are =
    then-read (member-read members are objects names.Command) (λ inner is. command-read inner is.2.are_members)

-- ---- the header and the events
-- what holds of a header
pub record IsHead (head : Header) : Type 0 where
  pub some : 1 ≤ head.replicas
  pub most : head.replicas ≤ 64
  pub seed : head.seed ≤ greatest_whole
  pub scene : IsSceneKept head.scene

header-read : (members : List Pair) → AreMembers 127 members → IsRead IsHead (HeaderOf members)
header-read members are =
    then-read (member-read members are (froms 1 2) names.Session) (λ version is.
    then-read (member-read members are (froms 1 65) names.Replicas) (λ replicas few.
    then-read (member-read members are wholes names.Seed) (λ seed whole.
    then-read (scene-read (value_unless_null (codes "scene") members)
    (fits-value_unless_null (codes "scene") members are))
    (λ scene kept. gives-read _ (record { some = few.1; most = omega (arith, few.2); seed = whole.0; scene = kept })))))

-- what holds of an event
pub record IsKept (replicas made : ℕ) (event : Event) : Type 0 where
  pub place : IsAmong replicas event
  pub limits : IsEventWithinLimits event
  pub brings : BringsElements event
  pub picks : PicksMade made event

module _ (replicas made : ℕ) (members : List Pair) (are : AreMembers 127 members) where
  time-read : IsRead (λ (when : ℕ × ℕ). (when.0 < replicas) × (when.1 ≤ greatest_whole)) (TimeOf replicas members)
  time-read =
      then-read (member-read members are (froms 0 replicas) names.At) (λ at is.
      then-read (member-read members are wholes names.Time) (λ time also. gives-read (at, time) (is.2, also.0)))

  held-read : IsRead (λ (held : ℕ × List ℕ). held.0 < replicas) (HeldOf replicas members)
  held-read =
      then-read (member-read members are (froms 0 replicas) names.At) (λ at is.
      then-read (member-read members are texts names.Id) (λ id also. gives-read (at, id) is.2))

  happening-read : (name : Happening) → IsRead (IsKept replicas made) (EventNamed replicas made members name)
  happening-read happenings.Change =
      then-read time-read (λ when is. then-read (member-read members are captures names.Capture)
      (λ capture also. then-read (command_in-read members are)
      (λ command kept. gives-read _
      (record { place = is.0; limits = (is.1, kept.0); brings = kept.1; picks = tt }))))
  happening-read happenings.Update = then-read (elements_in-read members are)
      (λ elements are. gives-read _ (record { place = tt; limits = tt; brings = are; picks = tt }))
  happening-read happenings.Deliver =
      then-read (member-read members are (froms 0 replicas) names.To)
      (λ to is. then-read (member-read members are (picked made) names.Picks)
      (λ picks has. gives-read _
      (record { place = is.2; limits = tt; brings = tt; picks = picks-made made has.0 picks has.2 })))
  happening-read happenings.Hold = then-read held-read
      (λ held is. gives-read _ (record { place = is; limits = tt; brings = tt; picks = tt }))
  happening-read happenings.Release = then-read held-read
      (λ held is. gives-read _ (record { place = is; limits = tt; brings = tt; picks = tt }))
  happening-read happenings.Undo = then-read time-read
      (λ when is. gives-read _ (record { place = is.0; limits = is.1; brings = tt; picks = tt }))
  happening-read happenings.Redo = then-read time-read
      (λ when is. gives-read _ (record { place = is.0; limits = is.1; brings = tt; picks = tt }))

  event-read : IsRead (IsKept replicas made) (EventOf replicas made members)
  event-read = then-read (member-read members are (told _ _ happenings-told) names.Do) (λ name is. happening-read name)

-- ---- texts
pub header_text-one : (text : List ℕ) → IsCompact 128 text → IsOne (HeaderText text)
header_text-one = object-one HeaderOf header-read

pub header-kept : (text : List ℕ) (head : Header) → HeaderText text (Ok head) → IsHead head
header-kept = object-kept HeaderOf header-read

pub event_text-one : (replicas made : ℕ) (text : List ℕ) → IsCompact 128 text → IsOne (EventText replicas made text)
event_text-one replicas made = object-one (EventOf replicas made) (event-read replicas made)

pub event-kept : (replicas made : ℕ) (text : List ℕ) (event : Event) → EventText replicas made text (Ok event)
    → IsKept replicas made event
event-kept replicas made = object-kept (EventOf replicas made) (event-read replicas made)

pub event-formed : (replicas made : ℕ) (text : List ℕ) (found : JsonFault)
    → EventText replicas made text (Err (Json found)) → ⊥
event-formed replicas made = object-formed (EventOf replicas made) (event-read replicas made)
