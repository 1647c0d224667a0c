-- What each byte of a value makes of what was written of the value. Only contracts of private
-- functions cite this. This project's own, over RFC 8259, sections 2 to 7.
use Rattle.std.specs.Prelude.{◌≡◌, ℕ, ◌+◌, ◌-◌, ◌<◌, ◌≤◌, length, take, drop, slice_get, slice_index, slice_index_or, List, [], ◌∷◌, ◌++◌, Option, None, Some, Bool, true, false, not, nat_le, ◌==◌, ◌&&◌, ◌⊎◌, if◌then◌else◌}
use Rattle.std.specs.List.{AllByRecursion}
use Rattle.json_text.specs.Characters.{is_space, is_blank, is_bare, is_plain, quote}
use Rattle.json_text.specs.Compact.{compact}
use Rattle.json_text.specs.Walk.{Place, outside, inside, place_of, Quoted}
use Rattle.json_text.specs.Tree.{Tree, IsGood, IsWord, spelling}
use Rattle.json_text.specs.Value.{Stands, extends_number}
use Rattle.json_reader.specs.inner.Drafts.{Drafted, fresh, grown, named, parted, closed, IsWhole}
use Rattle.json_reader.specs.inner.Machine.{AwaitsComma, Bracket, JsonFault, Machine, Mode, state, ended, refused, top, step, fault_of}
use Rattle.json_reader.specs.inner.Runs.{run, start, is_over, IsKept, RunsOn}
pub use Rattle.json_reader.specs.declared.reader.Reading.{Reading}
pub use Rattle.json_reader.specs.declared.reader.ValueReader.{ValueReader}
use Rattle.json_reader.specs.declared.reader.Taken.{Taken}
use Rattle.json_reader.specs.declared.reader.Taken.TheVariants as taken
use Rattle.json_reader.specs.declared.staying.Ground.{Ground}
use Rattle.json_reader.specs.declared.staying.Ground.TheVariants as ground
pub use Rattle.json_reader.specs.declared.writing.Deed.{Deed}
pub use Rattle.json_reader.specs.declared.writing.Deed.TheVariants.{Skip, Begin, Keep, Slash, Finish, Open, Shut, Name, Part, Deepen, Rise, Push}
pub use Rattle.json_reader.specs.declared.writing.Writer.{Writer}

-- Where a writer stands: in a string, of which these bytes came, an escape among them; in the
-- innermost object that is open, and in those around it, the outermost first.
pub record Writing : Type 0 where
  pub place : Place
  pub escapes : Bool
  pub string : List ℕ
  pub here : Drafted
  pub around : List Drafted

-- outside strings
abbrev pub between : Drafted → List Drafted → Writing
between here around =
    record { place = outside; escapes = false; string = []; here = here; around = around }

-- the bytes between two offsets
abbrev pub stretch : List ℕ → ℕ → ℕ → List ℕ
stretch bytes from to = take (to - from) (drop from bytes)

-- where the bytes end that are still to be appended as they stand: at the string that is open
abbrev pub kept_to : ℕ → Writer → ℕ
kept_to next w = if w.quoted then w.start else next

-- where the writer stands before an offset of these bytes
abbrev pub writing_at : List ℕ → ℕ → Writer → Writing
writing_at bytes next w = record {
  place = place_of w.quoted w.escaped;
  escapes = w.quoted && w.escapes;
  string = if w.quoted then stretch bytes w.start next else [];
  here = grown w.here (stretch bytes w.from (kept_to next w));
  around = w.around.items;
}

-- The writer's offsets lie before this one.
pub record Fits (next : ℕ) (w : Writer) : Type 0 where
  pub from : w.from ≤ kept_to next w
  pub to : kept_to next w ≤ next

-- The writer stands outside strings before an offset of these bytes.
pub record IsBetween (bytes : List ℕ) (next : ℕ) (w : Writer) : Type 0 where
  pub within : next < length bytes
  pub apart : w.quoted ≡ false
  pub fits : Fits next w

-- what is done with a byte, where so many arrays are open in the innermost object
abbrev pub deed : Place → ℕ → ℕ → Deed
deed outside level b =
    if is_space b then Skip
    else (if b == 34 then Begin
    else (if b == 44 then (if level == 0 then Part else Push)
    else (if b == 58 then Name
    else (if b == 91 then Deepen
    else (if b == 93 then Rise
    else (if b == 123 then Open
    else (if b == 125 then Shut
    else Push)))))))
deed (inside true) level b = Keep
deed (inside false) level b = if b == 34 then Finish else (if b == 92 then Slash else Keep)

-- The string that ends is whole, and is its own quote where no escape came.
pub record IsStringWhole (w : Writing) (b : ℕ) : Type 0 where
  pub text : List ℕ
  pub quoted : Quoted (w.string ++ b ∷ []) text []
  pub same : w.escapes ≡ false → w.string ++ b ∷ [] ≡ quote text

-- An object is open, of whole members.
pub record IsObjectWhole (w : Writing) : Type 0 where
  pub outer : List Drafted
  pub next : Drafted
  pub open_in : w.around ≡ outer ++ next ∷ []
  pub whole : IsWhole w.here

-- what it takes to do so with a byte
abbrev pub Can : Deed → Writing → ℕ → Type 0
Can Finish w b = IsStringWhole w b
Can Shut w b = IsObjectWhole w
Can d w b = Unit {0}

-- what comes of it
abbrev pub Done : Deed → Writing → ℕ → Writing → Type 0
Done Skip w b new = new ≡ w
Done Begin w b new =
    new ≡ record w { place = inside false; escapes = false; string = w.string ++ b ∷ [] }
Done Keep w b new = new ≡ record w { place = inside false; string = w.string ++ b ∷ [] }
Done Slash w b new =
    new ≡ record w { place = inside true; escapes = true; string = w.string ++ b ∷ [] }
Done Finish w b new = (text : List ℕ) → Quoted (w.string ++ b ∷ []) text []
    → new ≡ between (grown w.here (quote text)) w.around
Done Open w b new = new ≡ record w { here = fresh; around = w.around ++ grown w.here (b ∷ []) ∷ [] }
Done Shut w b new = (outer : List Drafted) (next : Drafted) → w.around ≡ outer ++ next ∷ []
    → new ≡ record w { here = grown (grown next (closed w.here)) (b ∷ []); around = outer }
Done Name w b new = new ≡ record w { here = grown (named (length w.here.text) w.here) (b ∷ []) }
Done Part w b new = new ≡ record w { here = grown (parted (length w.here.text) w.here) (b ∷ []) }
Done Deepen w b new =
    new ≡ record w { here = record (grown w.here (b ∷ [])) { level = w.here.level + 1 } }
Done Rise w b new =
    new ≡ record w { here = record (grown w.here (b ∷ [])) { level = w.here.level - 1 } }
Done Push w b new = new ≡ record w { here = grown w.here (b ∷ []) }

abbrev pub deed_at : Writing → ℕ → Deed
deed_at w b = deed w.place w.here.level b

-- the ground on which the writer stands
abbrev pub ground_of : Writer → Ground
ground_of w = if w.quoted then ground.Quoted else ground.Between

-- two arrays are open in the innermost object, and no string
abbrev pub is_in_arrays : Writer → Bool
is_in_arrays w = nat_le 2 w.here.level && not w.quoted

-- They are a string in which no character is escaped.
pub record IsPlainString (bytes : List ℕ) : Type 0 where
  pub text : List ℕ
  pub plain : AllByRecursion (λ b. is_plain b ≡ true) text
  pub is : bytes ≡ 34 ∷ (text ++ 34 ∷ [])

-- These bytes are taken together on this ground.
abbrev pub AreAlike : Ground → List ℕ → Type 0
AreAlike ground.Quoted bytes = AllByRecursion (λ b. is_plain b ≡ true) bytes
AreAlike ground.Between bytes = AllByRecursion (λ b. is_space b ≡ true) bytes
    ⊎ (AllByRecursion (λ b. extends_number b ≡ true) bytes
    ⊎ (IsPlainString bytes ⊎ (IsWord bytes ⊎ (bytes ≡ 91 ∷ 93 ∷ []))))

-- this byte stands at an offset
abbrev pub StandsAt : List ℕ → ℕ → ℕ → Type 0
StandsAt bytes at b = (at < length bytes) × (slice_index bytes at ≡ b)

-- They are a string of ASCII characters that stand for themselves.
pub record IsBareString (bytes : List ℕ) : Type 0 where
  pub text : List ℕ
  pub bare : AllByRecursion (λ b. is_bare b ≡ true) text
  pub is : bytes ≡ 34 ∷ (text ++ 34 ∷ [])

-- They are a value, behind which the machine is in this mode, and are taken together.
pub record IsSimple (mode : Mode) (bytes : List ℕ) : Type 0 where
  pub ran : (st : List Bracket) → length st < 128
      → run 128 (state Mode.Value st) bytes ≡ state mode st
  pub ends : AwaitsComma mode
  pub alike : AreAlike ground.Between bytes

-- the writer with the bytes before an offset copied
abbrev pub copied : List ℕ → ℕ → Writer → Writer
copied bytes to w = record w { here = grown w.here (stretch bytes w.from to); from = to }

-- what comes of the byte at an offset, with which this is done
pub record HasPut (d : Deed) (bytes : List ℕ) (next : ℕ) (old new : Writer) : Type 0 where
  pub done : Done d (writing_at bytes next old) (slice_index bytes next)
      (writing_at bytes (next + 1) new)
  pub fits : Fits (next + 1) new

-- what it takes of the byte at an offset
abbrev pub CanPut : List ℕ → ℕ → Writer → Type 0
CanPut bytes next w =
    Can (deed_at (writing_at bytes next w) (slice_index bytes next)) (writing_at bytes next w)
    (slice_index bytes next)

-- what comes of it
abbrev pub IsPut : List ℕ → ℕ → Writer → Writer → Type 0
IsPut bytes next old new =
    HasPut (deed_at (writing_at bytes next old) (slice_index bytes next)) bytes next old new

-- Each of these bytes may be taken, and however they are, this text and nothing else is written
-- then.
abbrev pub Ready : List ℕ → Writing → List ℕ → Type 0
Ready text w [] = w ≡ between (grown fresh text) []
Ready text w (b ∷ bytes) =
    Can (deed_at w b) w b × ((new : Writing) → Done (deed_at w b) w b new → Ready text new bytes)

-- Whatever value behind white space these bytes begin, the writer is ready for the rest of it.
abbrev pub HasWritten : List ℕ → Writing → Type 0
HasWritten bytes w =
    (blank more : List ℕ) (tree : Tree) → is_blank blank ≡ true → IsGood tree
    → blank ++ spelling tree ≡ bytes ++ more → Ready (compact tree) w more

-- The machine has run over the bytes from an offset to the next one, and what they make is written.
pub record HasRead (bytes : List ℕ) (at next : ℕ) (machine : Machine) (writer : Writer) :
    Type 0 where
  pub low : at ≤ next
  pub high : next ≤ length bytes
  pub runs : run 128 start (stretch bytes at next) ≡ state machine.mode machine.brackets
  pub fits : Fits next writer
  pub written : HasWritten (stretch bytes at next) (writing_at bytes next writer)

-- The bytes before an offset are read and written, from some offset on.
abbrev pub IsReadTo : List ℕ → ℕ → Reading → Type 0
IsReadTo bytes next r = (at : ℕ) × HasRead bytes at next r.machine r.writer

-- Wherever the bytes were read from on: what was read up to an offset is read up to a later one.
abbrev pub ReadsOn : List ℕ → ℕ → Reading → ℕ → Reading → Type 0
ReadsOn bytes next old end new =
    (next ≤ end) × (end ≤ length bytes) × ((at : ℕ) → HasRead bytes at next old.machine old.writer
    → HasRead bytes at end new.machine new.writer)

-- The machine has gone on over the bytes between two offsets, which are taken together on this
-- ground.
pub record HasPassed (ground : Ground) (bytes : List ℕ) (at end : ℕ) (old new : Machine) :
    Type 0 where
  pub within : (at ≤ end) × (end ≤ length bytes)
  pub ran : RunsOn old (stretch bytes at end) new
  pub alike : AreAlike ground (stretch bytes at end)

-- what a reader has read of these bytes from an offset on
abbrev pub IsRead : List ℕ → ℕ → ValueReader → Type 0
IsRead bytes at reader = HasRead bytes at reader.next reader.reading.machine reader.reading.writer

-- The value has ended before these bytes, or ends before white space where there are none.
abbrev pub Ends : Mode → List Bracket → List ℕ → Type 0
Ends m st left = step 128 m st (slice_index_or left 0 32) ≡ ended (slice_index_or left 0 32)

-- The value that begins at an offset has ended before a later one, whatever follows these bytes.
pub record EndsAt (bytes : List ℕ) (at end : ℕ) : Type 0 where
  pub mode : Mode
  pub brackets : List Bracket
  pub ran : run 128 start (stretch bytes at end) ≡ state mode brackets
  pub ends : (more : List ℕ) → Ends mode brackets (drop end bytes ++ more)

-- what came of reading on in these bytes, which were read from an offset on
abbrev pub Came : List ℕ → ℕ → Taken → Type 0
Came bytes at (taken.Through reader) = IsRead bytes at reader × (reader.next ≡ length bytes)
    × (is_over reader.reading.machine.mode reader.reading.machine.brackets ≡ false)
Came bytes at (taken.Ended value end) = (at ≤ end) × (end ≤ length bytes) × EndsAt bytes at end
    × Stands (drop at bytes) value (drop end bytes)
Came bytes at (taken.Refused machine next) =
    (at ≤ next) × (next < length bytes)
    × (run 128 start (stretch bytes at next) ≡ state machine.mode machine.brackets)
    × (step 128 machine.mode machine.brackets (slice_index bytes next) ≡ refused)

-- No value goes on with these bytes, or none is whole where there are none.
abbrev pub Breaks : Mode → List Bracket → List ℕ → Type 0
Breaks m st [] = Ends m st [] → ⊥
Breaks m st (b ∷ more) = step 128 m st b ≡ refused

-- No value goes on with what is left of these bytes, and this fault is told of it, where so many
-- bytes came with them in all.
pub record IsBroken (bytes left : List ℕ) (total : ℕ) (fault : JsonFault) : Type 0 where
  pub mode : Mode
  pub brackets : List Bracket
  pub front : List ℕ
  pub place : ℕ
  pub parts : bytes ≡ front ++ left
  pub counted : place + length left ≡ total
  pub ran : run 128 start front ≡ state mode brackets
  pub breaks : Breaks mode brackets left
  pub told : fault ≡ fault_of mode (top brackets) (slice_get left 0) place

-- a byte of these is refused
pub record IsRefusedIn (bytes : List ℕ) (total : ℕ) (fault : JsonFault) : Type 0 where
  pub byte : ℕ
  pub more : List ℕ
  pub broken : IsBroken bytes (byte ∷ more) total fault

-- What is left of these bytes, whose last ones are a piece, of which so many were used: all, where
-- the value is under way.
abbrev pub HasFed : List ℕ → List ℕ → List ℕ → ℕ → Option (List ℕ) → Type 0
HasFed bytes piece left used None = (used ≡ length piece) × (left ≡ bytes) × IsKept left
HasFed bytes piece left used (Some text) = (left ≡ []) × (used ≤ length piece) × (end : ℕ)
    × (used + length bytes ≡ end + length piece) × Came bytes 0 (taken.Ended text end)
