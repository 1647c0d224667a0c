-- A journal is told as one text, or has one first fault.
use Rattle.std.proofs.Common.{◌≡◌, ◌⊎◌, inl, inr, ℕ, ◌+◌, List, [], ◌∷◌, ◌++◌, length, Result, Ok, Err, refl, sym, ap, ap₂, subst, ◌∙◌}
use Rattle.json_reader.specs.declared.fault.JsonFault.{JsonFault}
use Rattle.elem.specs.ElementValue.{ElementValue}
use Rattle.room_msg.specs.Messages.{StandsAlone, IsReadAs}
use Rattle.room_msg.specs.declared.fault.MsgFault.{MsgFault}
use Rattle.room_msg.specs.declared.fault.MsgFault.TheVariants.{Json as Unread}
use Rattle.room_msg.specs.declared.message.Message.{Message}
use Rattle.room_msg.proofs.CallerLemmas.{answer-once, more-alone}
use Rattle.scene_file.specs.Heads.{Heading}
use Rattle.scene_file.specs.Reading.{IsSceneFaultAt}
use Rattle.scene_file.specs.Scenes.{state_text}
use Rattle.scene_file.specs.declared.layout.Layout.TheVariants.{Compact}
use Rattle.scene_file.specs.declared.fault.SceneFault.{SceneFault}
use Rattle.scene_file.specs.declared.fault.SceneFault.TheVariants.{Json, NotObject, NotScene, Elements, AppState, Files, Element}
use Rattle.scene_file.proofs.CallerLemmas.{fault-once}
use Rattle.input_texts.specs.Lines.{lines_of}
use Rattle.room_disk.specs.Recovering.{HasFaultyLine, IsLineFault, IsRecoveredAs, IsSceneLineFault, IsSceneReadAs, IsUpdateLineFault, Recovered}
use Rattle.room_disk.specs.declared.fault.LineFault.{LineFault}
use Rattle.room_disk.specs.declared.fault.LineFault.TheVariants.{Scene as SceneLine, Message as MessageLine, Other}
use Rattle.room_disk.proofs.CallerLemmas.{kept-once, kept-sound}
use Rattle.commands.specs.Answers.{IsAnswer}
use Rattle.commands.specs.Faults.{newline}
use Rattle.commands.specs.Journals.{IsJournalRefusal, IsToldAs}
use Rattle.commands.specs.declared.status.InputRefusal.{InputRefusal}
use Rattle.commands.specs.declared.status.InputRefusal.TheVariants as refusal
use Rattle.commands.specs.declared.words.ProgramCommand.TheVariants.{Recover}
use Rattle.commands.specs.declared.words.Form.{Form}
use Rattle.commands.specs.declared.words.Form.TheVariants as form
use Rattle.commands.proofs.Shows.{scene-once}

-- what a line that is no update is read as
abbrev unread : JsonFault → Result Message MsgFault
unread fault = Err (Unread fault)

abbrev refused : MsgFault → Result Message MsgFault
refused fault = Err fault

abbrev given : Message → Result Message MsgFault
given message = Ok message

-- ---- the first line

unread-alone : (line text : List ℕ) (fault : JsonFault) → IsReadAs line (unread fault) → StandsAlone line text → ⊥
unread-alone line text fault (inl first) alone = first.faulty text alone.rest alone.stands
unread-alone line text fault (inr (at, is, more)) alone = more-alone line text at more alone

-- no value stands alone in the line, or one does and is no scene
data Told (line : List ℕ) : SceneFault → Type 0 where
  untold : (fault : JsonFault) → IsReadAs line (unread fault) → Told line (Json fault)
  told : (fault : SceneFault) (text : List ℕ) → StandsAlone line text → IsSceneFaultAt line 0 fault → Told line fault

told-so : (line : List ℕ) (fault : SceneFault) → IsSceneReadAs line (Err fault) → Told line fault
told-so line (Json fault) is = untold fault is
told-so line NotObject (text, alone, is) = told NotObject text alone (text, alone.rest, alone.stands, is)
told-so line NotScene (text, alone, is) = told NotScene text alone (text, alone.rest, alone.stands, is)
told-so line Elements (text, alone, is) = told Elements text alone (text, alone.rest, alone.stands, is)
told-so line AppState (text, alone, is) = told AppState text alone (text, alone.rest, alone.stands, is)
told-so line Files (text, alone, is) = told Files text alone (text, alone.rest, alone.stands, is)
told-so line (Element place why) (text, alone, is) =
    told (Element place why) text alone (text, alone.rest, alone.stands, is)

told-once : (line : List ℕ) (f g : SceneFault) → Told line f → Told line g → f ≡ g
told-once line f g (untold a is) (untold b also) =
    let same : unread a ≡ unread b = answer-once line (unread a) (unread b) is also in cc
told-once line f g (untold a is) (told b text alone also) = absurd (unread-alone line text a is alone)
told-once line f g (told a text alone is) (untold b also) = absurd (unread-alone line text b also alone)
told-once line f g (told a text alone is) (told b other lone also) = fault-once line 0 a b is also

scene-line-once : (line : List ℕ) (f g : LineFault) → IsSceneLineFault line f → IsSceneLineFault line g → f ≡ g
scene-line-once line (SceneLine f) (SceneLine g) is also =
    ap SceneLine (told-once line f g (told-so line f is) (told-so line g also))
scene-line-once line (SceneLine f) (MessageLine g) is also = absurd also
scene-line-once line (SceneLine f) Other is also = absurd also
scene-line-once line (MessageLine f) g is also = absurd is
scene-line-once line Other g is also = absurd is

-- ---- the other lines
update-line-once : (line : List ℕ) (f g : LineFault) → IsUpdateLineFault line f → IsUpdateLineFault line g → f ≡ g
update-line-once line (SceneLine f) g is also = absurd is
update-line-once line (MessageLine f) (SceneLine g) is also = absurd also
update-line-once line (MessageLine f) (MessageLine g) is also =
    let same : refused f ≡ refused g = answer-once line (refused f) (refused g) is also in cc
update-line-once line (MessageLine f) Other is (message, read, other) =
    let same : refused f ≡ given message = answer-once line (refused f) (given message) is read in cc
update-line-once line Other (SceneLine g) is also = absurd also
update-line-once line Other (MessageLine g) (message, read, other) also =
    let same : refused g ≡ given message = answer-once line (refused g) (given message) also read in cc
update-line-once line Other Other is also = refl

line-once : (before : List (List ℕ)) (line : List ℕ) (f g : LineFault) → IsLineFault before line f
    → IsLineFault before line g → f ≡ g
line-once [] line f g is also = scene-line-once line f g is also
line-once (first ∷ before) line f g is also = update-line-once line f g is also

-- ---- the first faulty line
-- Two places in a list are one, or the one stands before the other.
abbrev Places : List (List ℕ) → List ℕ → List (List ℕ) → List ℕ → Type 0
Places a x c y =
    ((a ≡ c) × (x ≡ y)) ⊎ (((rest : List (List ℕ)) × (c ≡ a ++ x ∷ rest))
    ⊎ ((rest : List (List ℕ)) × (a ≡ c ++ y ∷ rest)))

heads-same : (x y : List ℕ) (xs ys : List (List ℕ)) → x ∷ xs ≡ y ∷ ys → (x ≡ y) × (xs ≡ ys)
heads-same x y xs ys e = (cc, cc)

places : (a b c d : List (List ℕ)) (x y : List ℕ) → a ++ x ∷ b ≡ c ++ y ∷ d → Places a x c y
places [] b [] d x y e = inl (refl, (heads-same x y b d e).0)
places [] b (z ∷ c) d x y e = inr (inl (c, ap (λ w. w ∷ c) (sym (heads-same x z b (c ++ y ∷ d) e).0)))
places (z ∷ a) b [] d x y e = inr (inr (a, ap (λ w. w ∷ a) (heads-same z y (a ++ x ∷ b) d e).0))
places (z ∷ a) b (w ∷ c) d x y e = by (places a b c d x y both.1)
  where
    both : (z ≡ w) × (a ++ x ∷ b ≡ c ++ y ∷ d)
    both = heads-same z w (a ++ x ∷ b) (c ++ y ∷ d) e

    by : Places a x c y → Places (z ∷ a) x (w ∷ c) y
    by (inl (same, also)) = inl (ap₂ (λ v vs. v ∷ vs) both.0 same, also)
    by (inr (inl (rest, is))) = inr (inl (rest, ap₂ (λ v vs. v ∷ vs) (sym both.0) is))
    by (inr (inr (rest, is))) = inr (inr (rest, ap₂ (λ v vs. v ∷ vs) both.0 is))

-- no line is faulty among those that are kept
faulty-before : (lines others : List (List ℕ)) (n m : ℕ) (f g : LineFault) (one : HasFaultyLine lines n f)
    (two : HasFaultyLine others m g) (rest : List (List ℕ))
    → two.before ≡ one.before ++ one.line ∷ rest → ⊥
faulty-before lines others n m f g one two rest is =
    let (head, elements, kept) = two.sound in
    kept-sound two.before head elements n f kept (record {
      before = one.before;
      line = one.line;
      after = rest;
      parts = is;
      counted = one.counted;
      sound = one.sound;
      faulty = one.faulty;
    })

faulty-once : (lines : List (List ℕ)) (n m : ℕ) (f g : LineFault) → HasFaultyLine lines n f → HasFaultyLine lines m g
    → (n ≡ m) × (f ≡ g)
faulty-once lines n m f g one two =
    by (places one.before one.after two.before two.after one.line two.line (sym one.parts ∙ two.parts))
  where
    by : Places one.before one.line two.before two.line → (n ≡ m) × (f ≡ g)
    by (inl (same, also)) = (
      one.counted ∙ (ap (λ (b : List (List ℕ)). length b + 1) same ∙ sym two.counted),
      line-once two.before two.line f g (subst (λ b. IsLineFault b two.line f) same
          (subst (λ l. IsLineFault one.before l f) also one.faulty)) two.faulty,
    )
    by (inr (inl (rest, is))) = absurd (faulty-before lines lines n m f g one two rest is)
    by (inr (inr (rest, is))) = absurd (faulty-before lines lines m n g f two one rest is)

-- ---- what is told
pub journal-refusal-once : (bytes : List ℕ) (f g : InputRefusal) → IsJournalRefusal bytes f → IsJournalRefusal bytes g
    → f ≡ g
journal-refusal-once bytes f g (number, fault, is, faulty) (other, why, also, wrong) =
    let same = faulty-once (lines_of bytes) number other fault why faulty wrong in
    is ∙ (ap₂ refusal.Line same.0 same.1 ∙ sym also)

pub journal-refusal-none : (bytes : List ℕ) (f : InputRefusal) (found : Recovered) → IsJournalRefusal bytes f
    → IsRecoveredAs bytes (Ok found) → ⊥
journal-refusal-none bytes f found (number, fault, is, faulty) kept =
    kept-sound (lines_of bytes) found.head found.elements number fault kept faulty

told-text-once : (f : Form) (head other : Heading) (stored news : List ElementValue) (a b : List ℕ) → head ≡ other
    → stored ≡ news → IsToldAs f head stored a → IsToldAs f other news b → a ≡ b
told-text-once form.State head other stored news a b same kept one two =
    one ∙ (ap₂ (λ h s. state_text h s ++ newline) same kept ∙ sym two)
told-text-once form.Scene head other stored news a b same kept one two =
    scene-once Compact head other stored news a b same kept one two

pub recovered-once : (f : Form) (bytes : List ℕ) (answer other : Result (List ℕ) InputRefusal)
    → IsAnswer (Recover f) bytes answer → IsAnswer (Recover f) bytes other → answer ≡ other
recovered-once f bytes (Ok a) (Ok b) is also =
    let same = kept-once (lines_of bytes) is.found.head also.found.head is.found.elements also.found.elements is.read
    also.read in
    ap Ok (told-text-once f is.found.head also.found.head is.found.elements also.found.elements a b same.0 same.1
    is.told also.told)
recovered-once f bytes (Ok a) (Err g) is also = absurd (journal-refusal-none bytes g is.found also is.read)
recovered-once f bytes (Err g) (Ok b) is also = absurd (journal-refusal-none bytes g also.found is also.read)
recovered-once f bytes (Err g) (Err h) is also = ap Err (journal-refusal-once bytes g h is also)
