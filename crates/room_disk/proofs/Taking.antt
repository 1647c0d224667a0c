-- One line more of a journal.
use Rattle.std.proofs.Common.{◌≡◌, ℕ, ◌+◌, List, [], ◌∷◌, ◌++◌, length, Option, Some, None, is_some, true, Result, Ok, Err, IfOk, sym, subst, ap, ◌∙◌, arith, length-append}
use Rattle.std.proofs.lemmas.List.{nil_from_length}
use Rattle.elem.specs.ElementValue.{ElementValue}
use Rattle.room_msg.specs.Messages.{StandsAlone}
use Rattle.scene_file.specs.Heads.{Heading}
use Rattle.scene_file.specs.Reading.{IsSceneFault}
use Rattle.scene_file.specs.declared.fault.SceneFault.{SceneFault}
use Rattle.scene_file.specs.declared.fault.SceneFault.TheVariants.{Json, NotObject, NotScene, Elements, AppState, Files, Element}
use Rattle.room_disk.specs.Recovering.{IsSceneReadAs, IsSceneLineFault, IsUpdateLineFault, IsLineFault, AreKept}
use Rattle.room_disk.specs.inner.UnderWay.{HasTakenLine, IsReadBy, IsReadTo}
use Rattle.room_disk.specs.declared.fault.KeepFault.{KeepFault}
use Rattle.room_disk.specs.declared.fault.KeepFault.TheVariants.{Line}
use Rattle.room_disk.specs.declared.fault.LineFault.{LineFault}
use Rattle.room_disk.specs.declared.recovery.Recovery.{Recovery}
use Rattle.room_disk.proofs.KeptLines.{kept-more, faulty-line, faulty-more, scene-fault, update-fault}

-- ---- reading it
pub read-first : (lines : List (List ℕ)) (line : List ℕ) (head : Heading) (elements : List ElementValue) (count : ℕ)
    → count ≡ length lines → count ≡ 0 → AreKept (line ∷ []) head elements
    → AreKept (lines ++ line ∷ []) head elements
read-first lines line head elements count long zero kept =
    let none : lines ≡ [] = nil_from_length lines (omega (arith, long, zero)) in
    subst (λ ls. AreKept (ls ++ line ∷ []) head elements) (sym none) kept

some-lines : (lines : List (List ℕ)) (count : ℕ) → count ≡ length lines → (count ≡ 0 → ⊥) → lines ≡ [] → ⊥
some-lines lines count long some none = some (long ∙ ap length none)

pub read-further : (lines : List (List ℕ)) (line : List ℕ) (head : Heading) (old new : List ElementValue) (count : ℕ)
    → count ≡ length lines → (count ≡ 0 → ⊥) → AreKept lines head old
    → HasTakenLine old line new → AreKept (lines ++ line ∷ []) head new
read-further lines line head old new count long some kept taken =
    kept-more lines line head old new (some-lines lines count long some) kept taken

pub fault-first : (lines : List (List ℕ)) (line : List ℕ) (fault : LineFault) (count : ℕ) → count ≡ length lines
    → count ≡ 0 → IsSceneLineFault line fault → IsLineFault lines line fault
fault-first lines line fault count long zero is =
    scene-fault lines line fault (nil_from_length lines (omega (arith, long, zero))) is

pub fault-further : (lines : List (List ℕ)) (line : List ℕ) (fault : LineFault) (count : ℕ) → count ≡ length lines
    → (count ≡ 0 → ⊥) → IsUpdateLineFault line fault → IsLineFault lines line fault
fault-further lines line fault count long some is = update-fault lines line fault (some-lines lines count long some) is

-- the fault of a value that stands alone is that of the line
pub fault-alone : (line text : List ℕ) (fault : SceneFault) → StandsAlone line text → IsSceneFault text fault
    → IsSceneReadAs line (Err fault)
fault-alone line text (Json found) stands is = absurd is
fault-alone line text NotObject stands is = (text, stands, is)
fault-alone line text NotScene stands is = (text, stands, is)
fault-alone line text Elements stands is = (text, stands, is)
fault-alone line text AppState stands is = (text, stands, is)
fault-alone line text Files stands is = (text, stands, is)
fault-alone line text (Element place why) stands is = (text, stands, is)

-- ---- taking it
pub take-kept : (lines : List (List ℕ)) (line : List ℕ) (old new : Recovery) → old.fault ≡ None → new.fault ≡ None
    → new.lines ≡ old.lines + 1
    → ((ls : List (List ℕ)) → old.lines ≡ length ls → AreKept ls old.head old.store.elements
    → AreKept (ls ++ line ∷ []) new.head new.store.elements)
    → IsReadTo lines old → IsReadTo (lines ++ line ∷ []) new
take-kept lines line old new was is count read to =
    let kept = subst (IsReadBy lines old.head old.store.elements old.lines) was to in
    subst (IsReadBy (lines ++ line ∷ []) new.head new.store.elements new.lines) (sym is)
    (read lines kept.1 kept.0, omega (arith, count, kept.1, length-append lines (line ∷ [])))

pub take-faulty : (lines : List (List ℕ)) (line : List ℕ) (old new : Recovery) (number : ℕ) (fault : LineFault)
    → old.fault ≡ None → new.fault ≡ Some (Line number fault) → number ≡ old.lines + 1
    → ((ls : List (List ℕ)) → old.lines ≡ length ls → IsLineFault ls line fault)
    → IsReadTo lines old → IsReadTo (lines ++ line ∷ []) new
take-faulty lines line old new number fault was is count faulty to =
    let kept = subst (IsReadBy lines old.head old.store.elements old.lines) was to in
    let next : number ≡ length lines + 1 = omega (arith, count, kept.1) in
    subst (IsReadBy (lines ++ line ∷ []) new.head new.store.elements new.lines) (sym is)
    (faulty-line lines line old.head old.store.elements number fault kept.0 next (faulty lines kept.1))

pub take-more : (lines : List (List ℕ)) (line : List ℕ) (old new : Recovery) (fault : Option KeepFault)
    → is_some fault ≡ true → old.fault ≡ fault → new.fault ≡ fault → IsReadTo lines old
    → IsReadTo (lines ++ line ∷ []) new
take-more lines line old new None some was is to = cc
take-more lines line old new (Some fault) some was is to =
    subst (IsReadBy (lines ++ line ∷ []) new.head new.store.elements new.lines) (sym is)
    (faulty-more lines line fault (subst (IsReadBy lines old.head old.store.elements old.lines) was to))

-- ---- what holds of an answer

pub if-then : {T E : Type 0} (P Q : T → Type 0) (r : Result T E) → ((x : T) → P x → Q x) → IfOk r P → IfOk r Q
if-then P Q (Ok x) f p = f x p
if-then P Q (Err e) f p = tt

-- ---- whether there was a line
nil-none : (before : List (List ℕ)) (line : List ℕ) (after : List (List ℕ)) → [] ≡ before ++ line ∷ after → ⊥
nil-none [] line after e = cc
nil-none (first ∷ before) line after e = cc

pub none-read : (lines : List (List ℕ)) (recovery : Recovery) → recovery.fault ≡ None → recovery.lines ≡ 0
    → IsReadTo lines recovery → lines ≡ []
none-read lines recovery sound zero to =
    let kept = rw sound at to in nil_from_length lines (omega (arith, kept.1, zero))

pub some-read : (lines : List (List ℕ)) (recovery : Recovery) → recovery.fault ≡ None → (recovery.lines ≡ 0 → ⊥)
    → IsReadTo lines recovery → lines ≡ [] → ⊥
some-read lines recovery sound some to none = let kept = rw sound at to in some (kept.1 ∙ ap length none)

pub fault-read : (lines : List (List ℕ)) (recovery : Recovery) (fault : KeepFault) → recovery.fault ≡ Some fault
    → IsReadTo lines recovery → lines ≡ [] → ⊥
fault-read lines recovery (Line number fault) faulty to none =
    let has = rw faulty at to in nil-none has.before has.line has.after (sym none ∙ has.parts)
