-- Each line of a living replica is read as one thing, or has one first fault; and what holds of what is read.
use Rattle.std.proofs.Common.{◌≡◌, ℕ, List, Result, Ok, Err, codes}
use Rattle.json_text.specs.Compact.{Member as Pair}
use Rattle.json_text.specs.Parts.{AreMembers}
use Rattle.json_text.specs.Value.{IsCompact}
use Rattle.json_reader.specs.declared.fault.JsonFault.{JsonFault}
use Rattle.scene_file.specs.Reading.{value_unless_null}
use Rattle.scene_file.proofs.CallerLemmas.{fits-value_unless_null}
use Rattle.session_text.specs.Lines.{OpeningOf, OpeningText, LineNamed, LineOf, LineText, IsLineWithinLimits, LineBringsElements, IsReplicaOpening}
use Rattle.session_text.specs.declared.fault.TextFault.{TextFault}
use Rattle.session_text.specs.declared.fault.TextFault.TheVariants.{Json}
use Rattle.session_text.specs.declared.lines.Line.{Line}
use Rattle.session_text.specs.declared.lines.LineName.{LineName}
use Rattle.session_text.specs.declared.lines.LineName.TheVariants as named
use Rattle.session_text.specs.declared.lines.Opening.{Opening}
use Rattle.session_text.specs.declared.name.MemberName.TheVariants as names
use Rattle.session_text.proofs.FormsOne.{wholes, froms, texts, captures, told}
use Rattle.session_text.proofs.Readings.{IsRead, gives-read, then-read}
use Rattle.session_text.proofs.RowsOne.{member-read, command_in-read, elements_in-read, object-one, object-kept, object-formed}
use Rattle.session_text.proofs.Values.{scene-read}
use Rattle.session_text.proofs.Words.{line_names-told}

-- what holds of a line
abbrev IsLineKept : Line → Type 0
IsLineKept line = IsLineWithinLimits line × LineBringsElements line

module _ (members : List Pair) (are : AreMembers 127 members) where
  -- ---- the opening
  opening-read : IsRead IsReplicaOpening (OpeningOf members)
  opening-read =
      then-read (member-read members are (froms 1 2) names.Replica) (λ version is.
      then-read (member-read members are (froms 0 64) names.Number) (λ number few.
      then-read (member-read members are wholes names.Seed) (λ seed whole.
      then-read (scene-read (value_unless_null (codes "scene") members)
      (fits-value_unless_null (codes "scene") members are))
      (λ scene kept. gives-read _
      (record { number = few.2; seed = whole.0; keys = kept.keys; elements = kept.elements })))))

  -- ---- the lines behind it
  line_named-read : (name : LineName) → IsRead IsLineKept (LineNamed members name)
  line_named-read named.Change =
      then-read (member-read members are wholes names.Time) (λ time whole.
      then-read (member-read members are captures names.Capture) (λ capture is.
      then-read (command_in-read members are) (λ command kept. gives-read _ ((whole.0, kept.0), kept.1))))
  line_named-read named.Undo =
      then-read (member-read members are wholes names.Time) (λ time whole. gives-read _ (whole.0, tt))
  line_named-read named.Redo =
      then-read (member-read members are wholes names.Time) (λ time whole. gives-read _ (whole.0, tt))
  line_named-read named.Take =
      then-read (elements_in-read members are) (λ elements are. gives-read _ (tt, are))
  line_named-read named.Receive =
      then-read (member-read members are texts names.Message) (λ text is. gives-read _ (tt, tt))
  line_named-read named.Hold = then-read (member-read members are texts names.Id) (λ id is. gives-read _ (tt, tt))
  line_named-read named.Release = then-read (member-read members are texts names.Id) (λ id is. gives-read _ (tt, tt))
  line_named-read named.Scene = gives-read _ (tt, tt)
  line_named-read named.State = gives-read _ (tt, tt)
  line_named-read named.Stored = then-read (member-read members are texts names.Id) (λ id is. gives-read _ (tt, tt))
  line_named-read named.Lengths = gives-read _ (tt, tt)
  line_named-read named.Pending = gives-read _ (tt, tt)

  line-read : IsRead IsLineKept (LineOf members)
  line-read = then-read (member-read members are (told _ _ line_names-told) names.Do) (λ name is. line_named-read name)

-- ---- texts
pub opening-once : (text : List ℕ) (answer other : Result Opening TextFault) → IsCompact 128 text
    → OpeningText text answer → OpeningText text other → answer ≡ other
opening-once text answer other compact = (object-one OpeningOf opening-read text compact).once answer other

pub line-once : (text : List ℕ) (answer other : Result Line TextFault) → IsCompact 128 text → LineText text answer
    → LineText text other → answer ≡ other
line-once text answer other compact = (object-one LineOf line-read text compact).once answer other

pub opening-told : (text : List ℕ) → IsCompact 128 text → (answer : Result Opening TextFault) × OpeningText text answer
opening-told text compact = (object-one OpeningOf opening-read text compact).some

pub line-told : (text : List ℕ) → IsCompact 128 text → (answer : Result Line TextFault) × LineText text answer
line-told text compact = (object-one LineOf line-read text compact).some

pub opening-kept : (text : List ℕ) (opening : Opening) → OpeningText text (Ok opening) → IsReplicaOpening opening
opening-kept = object-kept OpeningOf opening-read

pub line-within : (text : List ℕ) (line : Line) → LineText text (Ok line) → IsLineWithinLimits line
line-within text line says = (object-kept LineOf line-read text line says).0

pub line-brings : (text : List ℕ) (line : Line) → LineText text (Ok line) → LineBringsElements line
line-brings text line says = (object-kept LineOf line-read text line says).1

pub opening-formed : (text : List ℕ) (found : JsonFault) → OpeningText text (Err (Json found)) → ⊥
opening-formed = object-formed OpeningOf opening-read

pub line-formed : (text : List ℕ) (found : JsonFault) → LineText text (Err (Json found)) → ⊥
line-formed = object-formed LineOf line-read
