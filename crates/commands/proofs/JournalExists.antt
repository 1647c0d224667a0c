-- The bytes of every journal are told as a text, or have a first fault.
use Rattle.std.proofs.Common.{◌≡◌, ◌⊎◌, inl, inr, ℕ, ◌+◌, List, [], ◌∷◌, ◌++◌, All, length, flat_map, Result, Ok, Err, refl, ap, arith, sym, subst, true}
use Rattle.commands.proofs.Shows.{scene-exists, whole-fits, wholes-kept}
use Rattle.commands.specs.Answers.{IsAnswer}
use Rattle.commands.specs.Faults.{newline}
use Rattle.commands.specs.Journals.{IsToldAs}
use Rattle.commands.specs.declared.status.InputRefusal.TheVariants as refusal
use Rattle.commands.specs.declared.status.InputRefusal.{InputRefusal}
use Rattle.commands.specs.declared.words.ProgramCommand.TheVariants.{Recover}
use Rattle.commands.specs.declared.words.Form.TheVariants as form
use Rattle.commands.specs.declared.words.Form.{Form}
use Rattle.elem.specs.ElementValue.{ElementValue}
use Rattle.elem_read.specs.Reading.{IsWholeElement}
use Rattle.elem_store.proofs.CallerLemmas.{stored-exist}
use Rattle.elem_store.specs.Updates.{ids_of}
use Rattle.frac_keys.specs.Rising.{are_rising}
use Rattle.json_reader.specs.declared.fault.JsonFault.{JsonFault}
use Rattle.json_text.proofs.CallerLemmas.{Stands-once}
use Rattle.json_text.specs.Value.{Stands}
use Rattle.input_texts.specs.Lines.{lines_of}
use Rattle.room_disk.specs.Recovering.{AreKept, AreUpdates, HasFaultyLine, IsRecoveredAs, IsSceneReadAs, IsUpdateLineFault, Recovered, empty_head}
use Rattle.room_disk.specs.declared.fault.LineFault.TheVariants.{Scene as SceneLine, Message as MessageLine, Other}
use Rattle.room_disk.specs.declared.fault.LineFault.{LineFault}
use Rattle.room_msg.specs.Messages.{IsReadAs, StandsAlone}
use Rattle.room_msg.specs.declared.fault.MsgFault.TheVariants as msg
use Rattle.room_msg.specs.declared.fault.MsgFault.{MsgFault}
use Rattle.room_msg.specs.declared.message.Message.TheVariants.{Init, Update, Presence}
use Rattle.room_msg.specs.declared.message.Message.{Message}
use Rattle.scene_file.proofs.CallerLemmas.{scene-or-fault}
use Rattle.scene_file.specs.Heads.{Heading}
use Rattle.scene_file.specs.Reading.{IsSceneFaultAt}
use Rattle.scene_file.specs.Scenes.{state_text}
use Rattle.scene_file.specs.Whole.{IsWholeHead}
use Rattle.scene_file.specs.declared.fault.SceneFault.TheVariants as scene
use Rattle.scene_file.specs.declared.fault.SceneFault.{SceneFault}
use Rattle.scene_file.specs.declared.layout.Layout.TheVariants.{Compact}
use Rattle.scene_file.specs.declared.scene.Scene.{Scene}

-- what the crates below say: bytes are read as a message or have a fault, and what is recovered is whole
abbrev pub AreAnswered : Type 0
AreAnswered = (bytes : List ℕ) → (answer : Result Message MsgFault) × IsReadAs bytes answer

abbrev pub AreWhole : Type 0
AreWhole =
    (bytes : List ℕ) (found : Recovered) → IsRecoveredAs bytes (Ok found)
    → IsWholeHead found.head × All IsWholeElement found.elements

-- ---- one line
-- no value stands alone in the bytes, or one does
abbrev Alone : List ℕ → Type 0
Alone line = ((fault : JsonFault) × IsReadAs line (Err (msg.Json fault))) ⊎ ((text : List ℕ) × StandsAlone line text)

alone : (line : List ℕ) (answer : Result Message MsgFault) → IsReadAs line answer → Alone line
alone line (Ok message) (text, stands, is) = inr (text, stands)
alone line (Err (msg.Json fault)) is = inl (fault, is)
alone line (Err msg.NotObject) (text, stands, is) = inr (text, stands)
alone line (Err msg.Tag) (text, stands, is) = inr (text, stands)
alone line (Err msg.Payload) (text, stands, is) = inr (text, stands)
alone line (Err (msg.Element place fault)) (text, stands, is) = inr (text, stands)

-- the value that stands alone is the one that stands at the front
lone : (line text other rest : List ℕ) → StandsAlone line text → Stands line other rest → StandsAlone line other
lone line text other rest is stands = subst (StandsAlone line) (sym (Stands-once stands is.stands).0) is

abbrev FirstLine : List ℕ → Type 0
FirstLine line = ((s : Scene) × IsSceneReadAs line (Ok s)) ⊎ ((fault : SceneFault) × IsSceneReadAs line (Err fault))

lone-fault : (line text : List ℕ) (fault : SceneFault) → StandsAlone line text → IsSceneFaultAt line 0 fault
    → IsSceneReadAs line (Err fault)
lone-fault line text (scene.Json fault) is first = inl first
lone-fault line text scene.NotObject is (other, rest, stands, fault) =
    (other, lone line text other rest is stands, fault)
lone-fault line text scene.NotScene is (other, rest, stands, fault) =
    (other, lone line text other rest is stands, fault)
lone-fault line text scene.Elements is (other, rest, stands, fault) =
    (other, lone line text other rest is stands, fault)
lone-fault line text scene.AppState is (other, rest, stands, fault) =
    (other, lone line text other rest is stands, fault)
lone-fault line text scene.Files is (other, rest, stands, fault) = (other, lone line text other rest is stands, fault)
lone-fault line text (scene.Element place why) is (other, rest, stands, fault) =
    (other, lone line text other rest is stands, fault)

first-line : AreAnswered → (line : List ℕ) → FirstLine line
first-line answered line = by (alone line (answered line).0 (answered line).1)
  where
    by : Alone line → FirstLine line
    by (inl (fault, is)) = inr (scene.Json fault, is)
    by (inr (text, is)) = elim (scene-or-fault line 0 (omega arith)) [
      | inl (s, end, at) ↦ inl (
        s,
        (
          at.stands.text,
          lone line text at.stands.text _ is at.stands.stands,
          at.stands.says,
        ),
      )
      | inr (fault, at) ↦ inr (fault, lone-fault line text fault is at)
    ]

abbrev FurtherLine : List ℕ → Type 0
FurtherLine line = ((elements : List ElementValue) × IsReadAs line (Ok (Update elements)))
    ⊎ ((fault : LineFault) × IsUpdateLineFault line fault)

further-line : (line : List ℕ) (answer : Result Message MsgFault) → IsReadAs line answer → FurtherLine line
further-line line (Ok (Update elements)) is = inl (elements, is)
further-line line (Ok (Init elements)) is = inr (Other, (Init elements, is, tt))
further-line line (Ok (Presence value)) is = inr (Other, (Presence value, is, tt))
further-line line (Err fault) is = inr (MessageLine fault, is)

-- ---- all lines
-- The first of these lines that is no update, behind those that are.
record IsStopped (lines : List (List ℕ)) : Type 0 where
  before : List (List ℕ)
  line : List ℕ
  after : List (List ℕ)
  parts : lines ≡ before ++ line ∷ after
  messages : List (List ElementValue)
  updates : AreUpdates before messages
  fault : LineFault
  faulty : IsUpdateLineFault line fault

abbrev Further : List (List ℕ) → Type 0
Further lines = ((messages : List (List ElementValue)) × AreUpdates lines messages) ⊎ IsStopped lines

further : AreAnswered → (lines : List (List ℕ)) → Further lines
further answered [] = inl ([], tt)
further answered (line ∷ lines) = by (further-line line (answered line).0 (answered line).1) (further answered lines)
  where
    by : FurtherLine line → Further lines → Further (line ∷ lines)
    by (inr (fault, is)) rest = inr (record {
      before = [];
      line = line;
      after = lines;
      parts = refl;
      messages = [];
      updates = tt;
      fault = fault;
      faulty = is;
    })
    by (inl (elements, is)) (inl (messages, are)) = inl (elements ∷ messages, (is, are))
    by (inl (elements, is)) (inr stopped) = inr (record {
      before = line ∷ stopped.before;
      line = stopped.line;
      after = stopped.after;
      parts = ap (λ ls. line ∷ ls) stopped.parts;
      messages = elements ∷ stopped.messages;
      updates = (is, stopped.updates);
      fault = stopped.fault;
      faulty = stopped.faulty;
    })

abbrev Kept : List (List ℕ) → Type 0
Kept lines = (head : Heading) × (elements : List ElementValue) × AreKept lines head elements

opened : (first : List ℕ) (others : List (List ℕ)) (s : Scene) (messages : List (List ElementValue))
    → IsSceneReadAs first (Ok s) → AreUpdates others messages → Kept (first ∷ others)
opened first others s messages read updates =
    let stored = stored-exist (s.elements ++ flat_map (λ es. es) messages) in (
      s.head,
      stored.0,
      record {
        scene = s;
        read = read;
        is_head = refl;
        messages = messages;
        updates = updates;
        stored =
            stored.1;
      },
    )

abbrev Judged : List (List ℕ) → Type 0
Judged lines = Kept lines ⊎ ((number : ℕ) × (fault : LineFault) × HasFaultyLine lines number fault)

judged : AreAnswered → (lines : List (List ℕ)) → Judged lines
judged answered [] = inl (empty_head, [], (refl, refl))
judged answered (first ∷ others) = by (first-line answered first) (further answered others)
  where
    by : FirstLine first → Further others → Judged (first ∷ others)
    by (inr (fault, is)) rest = inr (
      1,
      SceneLine fault,
      record {
        before = [];
        line = first;
        after = others;
        parts = refl;
        counted = refl;
        sound = (empty_head, [], (refl, refl));
        faulty = is;
      },
    )
    by (inl (s, is)) (inl (messages, are)) = inl (opened first others s messages is are)
    by (inl (s, is)) (inr stopped) = inr (
      length (first ∷ stopped.before) + 1,
      stopped.fault,
      record {
        before = first ∷ stopped.before;
        line = stopped.line;
        after = stopped.after;
        parts = ap (λ ls. first ∷ ls) stopped.parts;
        counted = refl;
        sound = opened first stopped.before s stopped.messages is stopped.updates;
        faulty = stopped.faulty;
      },
    )

-- ---- what is told
-- the ids of what is recovered rise
pub kept-rise : (lines : List (List ℕ)) (head : Heading) (elements : List ElementValue) → AreKept lines head elements
    → are_rising (ids_of elements) ≡ true
kept-rise [] head elements kept = subst (λ es. are_rising (ids_of es) ≡ true) (sym kept.1) refl
kept-rise (first ∷ others) head elements kept = kept.stored.ordered

told-exists : (f : Form) (head : Heading) (elements : List ElementValue) → IsWholeHead head
    → All IsWholeElement elements → are_rising (ids_of elements) ≡ true
    → (text : List ℕ) × IsToldAs f head elements text
told-exists form.State head elements whole each rise = (state_text head elements ++ newline, refl)
told-exists form.Scene head elements whole each rise =
    scene-exists Compact head elements (whole-fits head whole) whole.settings_ordered (wholes-kept elements each) rise

pub recovered-exists : AreAnswered → AreWhole → (f : Form) (bytes : List ℕ) → (answer : Result (List ℕ) InputRefusal)
    × IsAnswer (Recover f) bytes answer
recovered-exists answered whole f bytes = by (judged answered (lines_of bytes))
  where
    by : Judged (lines_of bytes) → (answer : Result (List ℕ) InputRefusal) × IsAnswer (Recover f) bytes answer
    by (inl (head, elements, kept)) =
        let found : Recovered = record { head = head; elements = elements } in
        let (own, each) = whole bytes found kept in
        let told = told-exists f head elements own each (kept-rise (lines_of bytes) head elements kept) in
        (Ok told.0, record { found = found; read = kept; told = told.1 })
    by (inr (number, fault, is)) = (Err (refusal.Line number fault), (number, fault, refl, is))
