-- How a text is read: as something, or with a first fault. This project's own.
use Rattle.std.specs.Prelude.{◌≡◌, ℕ, List, Option, Result, Ok, Err}
use Rattle.board_base.specs.declared.stop.Stop.{Stop}
use Rattle.board_base.specs.declared.stop.Stop.TheVariants.{Fault, Memory}
use Rattle.json_text.specs.Compact.{Member as Pair}
use Rattle.scene_json.specs.Named.{value_at}
use Rattle.elem.specs.Forms.{IsObject}
use Rattle.elem_read.specs.Faults.{Lacks}
use Rattle.session_text.specs.Names.{word_of}
use Rattle.session_text.specs.declared.fault.TextFault.{TextFault}
use Rattle.session_text.specs.declared.fault.TextFault.TheVariants as faults
use Rattle.session_text.specs.declared.name.MemberName.{MemberName}

-- What is read of something, or which fault is the first.
abbrev pub Reading : Type 0 → Type 1
Reading A = Result A TextFault → Type 0

-- What has the property is read, and this is the fault where nothing has it.
abbrev pub Or : {A : Type 0} → (A → Type 0) → TextFault → Reading A
Or Is fault (Ok x) = Is x
Or Is fault (Err other) = Lacks Is × (other ≡ fault)

-- The member of this name is read, which has this form.
abbrev pub MemberOf : {A : Type 0} → MemberName → (Option (List ℕ) → A → Type 0) → List Pair
    → Reading A
MemberOf name IsForm members answer =
    Or (IsForm (value_at (word_of name) members)) (faults.Member name) answer

-- This is read in any case.
abbrev pub Gives : {A : Type 0} → A → Reading A
Gives x answer = answer ≡ Ok x

-- One thing is read, and then what follows from it; the first fault of the two is the fault.
pub data Then {A B : Type 0} (First : Result A TextFault → Type 0) (Next : A → Result B TextFault
    → Type 0)
    (answer : Result B TextFault) : Type 0 where
  goes_on : (x : A) → First (Ok x) → Next x answer → Then First Next answer
  ends : (fault : TextFault) → First (Err fault) → answer ≡ Err fault → Then First Next answer

-- The members of the object that a text is are read so.
abbrev pub ObjectOf : {A : Type 0} → (List Pair → Result A TextFault → Type 0) → List ℕ → Reading A
ObjectOf Says text answer = Then (Or (IsObject text) faults.NotObject) Says answer

-- What a call gives is what is read; want of memory says nothing.
abbrev pub Answers : {A : Type 0} → (Result A TextFault → Type 0) → Result A (Stop TextFault)
    → Type 0
Answers Reads (Ok x) = Reads (Ok x)
Answers Reads (Err (Fault fault)) = Reads (Err fault)
Answers Reads (Err Memory) = Unit {0}
