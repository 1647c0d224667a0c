-- Each command has an answer to each input.
use Rattle.std.proofs.Common.{◌≡◌, ◌≢◌, ◌⊎◌, inl, inr, ℕ, zero, suc, ◌+◌, ◌≤◌, List, [], ◌∷◌, ◌++◌, true, false, length, drop, codes, decimal, Result, Ok, Err, refl, arith, length-drop, lit≤}
use Rattle.std.specs.List.{AllByRecursion, prefix_len}
use Rattle.json_text.specs.Characters.{is_blank, is_space}
use Rattle.json_text.specs.Compact.{Member as Pair}
use Rattle.json_text.specs.Value.{IsCompact}
use Rattle.json_text.proofs.CallerLemmas.{Value-deeper, Runs-either}
use Rattle.elem.specs.ElementValue.{ElementValue}
use Rattle.elem_store.proofs.CallerLemmas.{stored-exist}
use Rattle.file_table.specs.References.{referred_files}
use Rattle.file_table.proofs.CallerLemmas.{picture-exists}
use Rattle.scene_file.specs.Heads.{Heading}
use Rattle.scene_file.specs.Reading.{IsSceneFaultAt}
use Rattle.scene_file.specs.Scenes.{scene_text, state_text}
use Rattle.scene_file.specs.declared.layout.Layout.{Layout}
use Rattle.scene_file.specs.declared.scene.Scene.{Scene}
use Rattle.scene_file.specs.declared.fault.SceneFault.{SceneFault}
use Rattle.scene_file.proofs.CallerLemmas.{StandsAt, joined-exists, scene-or-fault, HasText, written-exists}
use Rattle.shown_scenes.proofs.CallerLemmas.{shown-rise, shown-agree, shown-compact, shown-files}
use Rattle.session.proofs.CallerLemmas.{report-exists}
use Rattle.session_text.proofs.CallerLemmas.{session-or-fault}
use Rattle.commands.specs.Again.{TakesScenes}
use Rattle.commands.specs.Answers.{IsAnswer, IsShownAs, IsStoredAs, HasPictures, IsRefusal, session_refusal}
use Rattle.commands.specs.Boards.{IsBoardOf, heads_of, updates_of, shown_of}
use Rattle.commands.specs.Faults.{newline}
use Rattle.commands.specs.Input.{ScenesLead, HasScenes, HasFaultyText}
use Rattle.commands.specs.Pictures.{AreLines, IsToldOfPicture}
use Rattle.commands.specs.Pictures.IsToldOfPicture.{size, not_base64, no_data_url}
use Rattle.commands.specs.declared.status.InputRefusal.{InputRefusal}
use Rattle.commands.specs.declared.status.InputRefusal.TheVariants as refusal
use Rattle.commands.specs.declared.words.ProgramCommand.{ProgramCommand}
use Rattle.commands.specs.declared.words.ProgramCommand.TheVariants.{Restore, Merge, State, Pictures, Replay, Recover, Paste, Library, Insert, Check}
use Rattle.commands.specs.Words.{HasNames}
use Rattle.commands.proofs.CheckedInputs.{check-exists}
use Rattle.commands.proofs.JournalExists.{AreAnswered, AreWhole, recovered-exists}
use Rattle.commands.proofs.PasteExists.{pasted-exists}
use Rattle.commands.proofs.ShelfExists.{shelf-exists}
use Rattle.commands.proofs.InsertExists.{inserted-exists}
use Rattle.commands.proofs.Scenes.{ScenesLead-more}

-- ---- the scenes of an input, or its first faulty text
abbrev Held : List ℕ → Type 0
Held bytes = ((scenes : List Scene) × HasScenes bytes scenes)
    ⊎ ((number : ℕ) × (found : SceneFault) × HasFaultyText bytes number found)

-- whether no more is to be read: there is a scene, and white space alone is left
ended-or-not : (bytes : List ℕ) (scenes : List Scene) → ((scenes ≢ []) × (is_blank bytes ≡ true))
    ⊎ ((scenes ≡ []) ⊎ (is_blank bytes ≡ false))
ended-or-not bytes [] = inr (inl refl)
ended-or-not bytes (scene ∷ scenes) = elim (Runs-either is_space bytes) [
  | inl all ↦ inl (λ e. cc, all.0)
  | inr some ↦ inr (inr some.0)
]

-- one text more, and what comes behind it
next-text : (bytes : List ℕ) (at : ℕ) (scenes : List Scene) → at ≤ length bytes
    → ScenesLead bytes scenes (drop at bytes)
    → ((scene : Scene) (end : ℕ) → StandsAt bytes at scene end → Held bytes) → Held bytes
next-text bytes at scenes within lead onward = by (ended-or-not (drop at bytes) scenes) (scene-or-fault bytes at within)
  where
    by : ((scenes ≢ []) × (is_blank (drop at bytes) ≡ true)) ⊎ ((scenes ≡ []) ⊎ (is_blank (drop at bytes) ≡ false))
        → ((scene : Scene) × (end : ℕ) × StandsAt bytes at scene end)
        ⊎ ((found : SceneFault) × IsSceneFaultAt bytes at found) → Held bytes
    by (inl (some, blank)) next = inl (scenes, record { some = some; rest = drop at bytes; lead = lead; space = blank })
    by (inr begun) (inr (found, is)) =
        inr (
          length scenes + 1,
          found,
          record {
            scenes = scenes;
            start = at;
            within = within;
            lead = lead;
            counted =
                refl;
            begun = begun;
            faulty = is;
          },
        )
    by (inr begun) (inl (scene, end, s)) = onward scene end s

held-from : (bytes : List ℕ) (left at : ℕ) (scenes : List Scene) → at ≤ length bytes → length bytes ≤ at + left
    → ScenesLead bytes scenes (drop at bytes) → Held bytes
held-from bytes zero at scenes within near lead =
    next-text bytes at scenes within lead (λ scene end s. absurd (omega (arith, s.behind, s.within)))
held-from bytes (suc left) at scenes within near lead = next-text bytes at scenes within lead (λ scene end s.
    held-from bytes left end (scenes ++ scene ∷ []) s.within (omega (arith, s.behind))
    (ScenesLead-more bytes (drop at bytes) (drop end bytes) scenes scene lead s.stands))

held : (bytes : List ℕ) → Held bytes
held bytes = held-from bytes (length bytes) 0 [] (omega arith) (omega arith) refl

-- ---- the scenes of an input have their texts
led-texts : (bytes rest : List ℕ) (scenes : List Scene) → ScenesLead bytes scenes rest → AllByRecursion HasText scenes
led-texts bytes rest [] lead = tt
led-texts bytes rest (scene ∷ scenes) (next, at, lead) = ((at.text, at.says), led-texts next rest scenes lead)

held-texts : (bytes : List ℕ) (scenes : List Scene) → HasScenes bytes scenes → AllByRecursion HasText scenes
held-texts bytes scenes has = led-texts bytes has.rest scenes has.lead

-- ---- the board, and what is told of it
board-exists : (scenes : List Scene) → (head : Heading) × (stored : List ElementValue) × IsBoardOf scenes head stored
board-exists scenes =
    let head = joined-exists (heads_of scenes) in
    let stored = stored-exist (updates_of scenes) in
    (head.0, stored.0, record { joined = head.1; stores = stored.1 })

shown-exists : (layout : Layout) (scenes : List Scene) → AllByRecursion HasText scenes → (text : List ℕ)
    × IsShownAs scenes layout text
shown-exists layout scenes read =
    let (head, stored, board) = board-exists scenes in
    let written = written-exists layout (scene_text head (shown_of stored))
    (shown-compact scenes head stored read board.joined board.stores) in (
      written.0 ++ newline,
      record {
        head = head;
        stored = stored;
        board = board;
        written = written.0;
        scene = written.1;
        ended = refl;
        rise = shown-rise scenes head stored read board.joined board.stores;
        settled = shown-agree scenes head stored read board.joined board.stores;
      },
    )

state-exists : (scenes : List Scene) → (text : List ℕ) × IsStoredAs scenes text
state-exists scenes =
    let (head, stored, board) = board-exists scenes in
    (state_text head stored ++ newline, record { head = head; stored = stored; board = board; is_state = refl })

told-exists : (entry : List ℕ) → IsCompact 126 entry → (told : List ℕ) × IsToldOfPicture entry told
told-exists entry is = elim (picture-exists entry (Value-deeper (lit≤ tt) is)) [
  | inl (bytes, p) ↦ (decimal bytes, size bytes p)
  | inr (inl (content, has, none)) ↦ (codes "not base64", not_base64 content has none)
  | inr (inr none) ↦ (codes "no data url", no_data_url none)
]

lines-exist : (files : List Pair) → AllByRecursion (λ (file : Pair). IsCompact 126 file.1) files → (text : List ℕ)
    × AreLines files text
lines-exist [] nest = ([], refl)
lines-exist (file ∷ files) nest =
    let told = told-exists file.1 nest.0 in
    let rest = lines-exist files nest.1 in
    (_, (told.0, rest.0, told.1, rest.1, refl))

pictures-exist : (scenes : List Scene) → AllByRecursion HasText scenes → (text : List ℕ) × HasPictures scenes text
pictures-exist scenes read =
    let (head, stored, board) = board-exists scenes in
    let lines = lines-exist (referred_files head.files (shown_of stored))
    (shown-files scenes head stored read board.joined board.stores) in
    (lines.0, record { head = head; stored = stored; board = board; lines = lines.1 })

-- ---- answers
abbrev IsAnswered : ProgramCommand → List ℕ → Type 0
IsAnswered command bytes = (answer : Result (List ℕ) InputRefusal) × IsAnswer command bytes answer

-- scenes are answered with a text, and so is one scene
pub scenes-answered : (command : ProgramCommand) (bytes : List ℕ) (scenes : List Scene) → TakesScenes command
    → HasScenes bytes scenes → (text : List ℕ) × IsAnswer command bytes (Ok text)
scenes-answered (Restore layout) bytes scenes takes has = absurd takes
scenes-answered (Merge layout) bytes scenes takes has =
    let made = shown-exists layout scenes (held-texts bytes scenes has) in (made.0, (scenes, has, made.1))
scenes-answered State bytes scenes takes has = let made = state-exists scenes in (made.0, (scenes, has, made.1))
scenes-answered Pictures bytes scenes takes has =
    let made = pictures-exist scenes (held-texts bytes scenes has) in (made.0, (scenes, has, made.1))
scenes-answered Replay bytes scenes takes has = absurd takes
scenes-answered (Recover form) bytes scenes takes has = absurd takes
scenes-answered (Paste prefix) bytes scenes takes has = absurd takes
scenes-answered Library bytes scenes takes has = absurd takes
scenes-answered (Insert insertion) bytes scenes takes has = absurd takes
scenes-answered Check bytes scenes takes has = absurd takes

pub scene-answered : (layout : Layout) (bytes : List ℕ) (scene : Scene) → HasScenes bytes (scene ∷ [])
    → (text : List ℕ) × IsAnswer (Restore layout) bytes (Ok text)
scene-answered layout bytes scene has =
    let made = shown-exists layout (scene ∷ []) (held-texts bytes (scene ∷ []) has) in (made.0, (scene, has, made.1))

scenes-or-refused : (command : ProgramCommand) (bytes : List ℕ) → TakesScenes command
    → ((text : List ℕ) × IsAnswer command bytes (Ok text)) ⊎ ((found : InputRefusal) × IsRefusal bytes found)
scenes-or-refused command bytes takes = elim (held bytes) [
  | inl (scenes, has) ↦ inl (scenes-answered command bytes scenes takes has)
  | inr (number, found, faulty) ↦ inr (refusal.Text number found, (number, found, refl, faulty))
]

restored : (layout : Layout) (bytes : List ℕ) (scene : Scene) (end : ℕ) → StandsAt bytes 0 scene end
    → IsAnswered (Restore layout) bytes
restored layout bytes scene end s = elim (Runs-either is_space (drop end bytes)) [
  | inl blank ↦
      let has : HasScenes bytes (scene ∷ []) =
      record { some = λ e. cc; rest = drop end bytes; lead = (drop end bytes, s.stands, refl); space = blank.0 } in
      let made = scene-answered layout bytes scene has in (Ok made.0, made.1)
  | inr more ↦ (
    Err (refusal.Extra (end + prefix_len is_space (drop end bytes))),
    inr (
      _,
      refl,
      record {
        scene = scene;
        after = end;
        lead = s.stands;
        behind = refl;
        more = omega (arith, more.1, length-drop end bytes, s.within);
      },
    ),
  )
]

pub answer-exists : AreAnswered → AreWhole → (command : ProgramCommand) (bytes : List ℕ) → HasNames command
    → IsAnswered command bytes
answer-exists answered whole (Restore layout) bytes names = elim (scene-or-fault bytes 0 (omega arith)) [
  | inl (scene, end, s) ↦ restored layout bytes scene end s
  | inr (found, is) ↦ (Err (refusal.Text 1 found), inl (found, refl, is))
]
answer-exists answered whole (Merge layout) bytes names = elim (scenes-or-refused (Merge layout) bytes tt) [
  | inl (text, made) ↦ (Ok text, made)
  | inr (found, is) ↦ (Err found, is)
]
answer-exists answered whole State bytes names = elim (scenes-or-refused State bytes tt) [
  | inl (text, made) ↦ (Ok text, made)
  | inr (found, is) ↦ (Err found, is)
]
answer-exists answered whole Pictures bytes names = elim (scenes-or-refused Pictures bytes tt) [
  | inl (text, made) ↦ (Ok text, made)
  | inr (found, is) ↦ (Err found, is)
]
answer-exists answered whole Replay bytes names = elim (session-or-fault bytes) [
  | inl (session, read) ↦
      let report = report-exists session in (
        Ok (report.0 ++ newline),
        record {
          session = session;
          read = read;
          written = report.0;
          report = report.1;
          ended =
              refl;
        },
      )
  | inr (fault, is) ↦ (Err (session_refusal fault), (fault, refl, is))
]
answer-exists answered whole (Recover form) bytes names = recovered-exists answered whole form bytes
answer-exists answered whole (Paste prefix) bytes names = pasted-exists prefix bytes names
answer-exists answered whole Library bytes names = shelf-exists bytes
answer-exists answered whole (Insert insertion) bytes names = inserted-exists insertion bytes names.1
answer-exists answered whole Check bytes names = check-exists bytes
