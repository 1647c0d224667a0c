-- The states of inputs stand for these.
use Rattle.std.proofs.Common.{◌≡◌, ◌≢◌, ◌↔◌, ℕ, List, [], ◌∷◌, ◌++◌, true, Ok, refl, sym, ap, ap₂, ◌∙◌, subst, subst₂}
use Rattle.std.specs.List.{flat_map, concat}
use Rattle.std.proofs.lemmas.Grind.{flat_map-append}
use Rattle.std.proofs.lemmas.List.{append-nil, map-append}
use Rattle.json_text.specs.Characters.{is_blank}
use Rattle.json_text.specs.Compact.{Member as Pair}
use Rattle.json_text.specs.Members.{pairs}
use Rattle.elem.specs.ElementValue.{ElementValue}
use Rattle.elem_store.specs.Updates.{stored_of}
use Rattle.elem_store.proofs.CallerLemmas.{joined_leader, stored-append, AreStored-itself}
use Rattle.file_table.specs.Table.{least_entry, AreLeastEntries}
use Rattle.file_table.proofs.CallerLemmas.{least-append, least-own, lesser_either}
use Rattle.scene_file.specs.Heads.{Heading, lesser_source, least_source, settings_of, files_of}
use Rattle.scene_file.specs.Reading.{IsSceneAt}
use Rattle.scene_file.specs.declared.scene.Scene.{Scene}
use Rattle.scene_file.proofs.CallerLemmas.{lesser_source-none, lesser_source-assoc, scene-behind, scene-before, state-back}
use Rattle.commands.specs.Again.{TakesScenes, AreAnswers}
use Rattle.commands.specs.Answers.{IsAnswer, IsShownAs, IsStoredAs, HasPictures}
use Rattle.commands.specs.Boards.{IsBoardOf, heads_of, updates_of}
use Rattle.commands.specs.Faults.{newline}
use Rattle.commands.specs.Input.{ScenesLead, HasScenes}
use Rattle.commands.specs.declared.words.ProgramCommand.{ProgramCommand}
use Rattle.commands.specs.declared.words.ProgramCommand.TheVariants.{Restore, Merge, State, Pictures, Replay, Recover, Paste, Library, Insert, Check}
use Rattle.commands.proofs.Inputs.{input-once}
use Rattle.commands.proofs.Reread.{board-whole}

-- ---- inputs one behind the other
lead-before : (bytes rest more : List ℕ) (scenes : List Scene) → ScenesLead bytes scenes rest
    → ScenesLead (bytes ++ more) scenes (rest ++ more)
lead-before bytes rest more [] lead = ap (λ b. b ++ more) lead
lead-before bytes rest more (scene ∷ scenes) (next, at, lead) =
    (next ++ more, scene-before bytes scene next more at, lead-before next rest more scenes lead)

lead-behind : (blank bytes rest : List ℕ) (scenes : List Scene) → is_blank blank ≡ true → scenes ≢ []
    → ScenesLead bytes scenes rest → ScenesLead (blank ++ bytes) scenes rest
lead-behind blank bytes rest [] space some lead = absurd (some refl)
lead-behind blank bytes rest (scene ∷ scenes) space some (next, at, lead) =
    (next, scene-behind blank bytes scene next space at, lead)

lead-join : (bytes rest last : List ℕ) (scenes others : List Scene) → ScenesLead bytes scenes rest
    → ScenesLead rest others last → ScenesLead bytes (scenes ++ others) last
lead-join bytes rest last [] others lead more = subst (λ b. ScenesLead b others last) (sym lead) more
lead-join bytes rest last (scene ∷ scenes) others (next, at, lead) more =
    (next, at, lead-join next rest last scenes others lead more)

joined-some : (scenes others : List Scene) → scenes ≢ [] → scenes ++ others ≢ []
joined-some [] others some e = some refl
joined-some (scene ∷ scenes) others some e = cc

has-append : (bytes more : List ℕ) (scenes others : List Scene) → HasScenes bytes scenes → HasScenes more others
    → HasScenes (bytes ++ more) (scenes ++ others)
has-append bytes more scenes others has also = record {
  some = joined-some scenes others has.some;
  rest = also.rest;
  lead = lead-join (bytes ++ more) (has.rest ++ more) also.rest scenes others
      (lead-before bytes has.rest more scenes has.lead)
      (lead-behind has.rest more also.rest others has.space also.some also.lead);
  space = also.space;
}

-- ---- what a board is made of
abbrev settings_in : List Scene → List Pair
settings_in scenes = settings_of (heads_of scenes)

abbrev files_in : List Scene → List Pair
files_in scenes = files_of (heads_of scenes)

-- Two lists of scenes have one source, the same least settings and files, and the same stored elements.
record HaveSameParts (scenes others : List Scene) : Type 0 where
  pub source : least_source (heads_of scenes) ≡ least_source (heads_of others)
  pub settings : (name : List ℕ) → least_entry (settings_in scenes) name ≡ least_entry (settings_in others) name
  pub files : (id : List ℕ) → least_entry (files_in scenes) id ≡ least_entry (files_in others) id
  pub stored : (id : List ℕ) → stored_of (updates_of scenes) id ≡ stored_of (updates_of others) id

parts-flip : (scenes others : List Scene) → HaveSameParts scenes others → HaveSameParts others scenes
parts-flip scenes others same = record {
  source = sym same.source;
  settings = λ name. sym (same.settings name);
  files = λ id. sym (same.files id);
  stored = λ id. sym (same.stored id);
}

same-board : (scenes others : List Scene) (head : Heading) (stored : List ElementValue) → HaveSameParts scenes others
    → IsBoardOf scenes head stored → IsBoardOf others head stored
same-board scenes others head stored same board = record {
  joined = record {
    source = board.joined.source ∙ same.source;
    app_state = record {
      ordered = board.joined.app_state.ordered;
      each = λ name. board.joined.app_state.each name
          ∙ same.settings name;
    };
    files = record { ordered = board.joined.files.ordered; each = λ id. board.joined.files.each id ∙ same.files id };
  };
  stores = record { ordered = board.stores.ordered; each = λ id. board.stores.each id ∙ same.stored id };
}

-- ---- lists of scenes one behind the other
source-append : (heads others : List Heading) → least_source (heads ++ others)
    ≡ lesser_source (least_source heads) (least_source others)
source-append [] others = refl
source-append (head ∷ heads) others =
    ap (lesser_source head.source) (source-append heads others)
    ∙ lesser_source-assoc head.source (least_source heads) (least_source others)

heads-append : (scenes others : List Scene) → heads_of (scenes ++ others) ≡ heads_of scenes ++ heads_of others
heads-append scenes others = map-append (λ (scene : Scene). scene.head) scenes others

given-append : (part : Heading → List Pair) (scenes others : List Scene) (id : List ℕ)
    → least_entry (flat_map part (heads_of (scenes ++ others))) id
    ≡ lesser_either (least_entry (flat_map part (heads_of scenes)) id)
    (least_entry (flat_map part (heads_of others)) id)
given-append part scenes others id =
    ap (λ heads. least_entry (flat_map part heads) id) (heads-append scenes others)
    ∙ (ap (λ given. least_entry given id) (flat_map-append part (heads_of scenes) (heads_of others))
    ∙ least-append (flat_map part (heads_of scenes)) (flat_map part (heads_of others)) id)

updates-append : (scenes others : List Scene) (id : List ℕ)
    → stored_of (updates_of (scenes ++ others)) id ≡ joined_leader (stored_of (updates_of scenes) id)
    (stored_of (updates_of others) id)
updates-append scenes others id =
    ap (λ updates. stored_of updates id) (flat_map-append (λ (scene : Scene). scene.elements) scenes others)
    ∙ stored-append (updates_of scenes) (updates_of others) id

parts-append : (scenes others more last : List Scene) → HaveSameParts scenes others → HaveSameParts more last
    → HaveSameParts (scenes ++ more) (others ++ last)
parts-append scenes others more last same also = record {
  source = both-source scenes more ∙ (ap₂ lesser_source same.source also.source ∙ sym (both-source others last));
  settings = λ name.
      given-append (λ (head : Heading). pairs head.app_state) scenes more name
      ∙ (ap₂ lesser_either (same.settings name) (also.settings name)
      ∙ sym (given-append (λ (head : Heading). pairs head.app_state) others last name));
  files = λ id.
      given-append (λ (head : Heading). head.files) scenes more id
      ∙ (ap₂ lesser_either (same.files id) (also.files id)
      ∙ sym (given-append (λ (head : Heading). head.files) others last id));
  stored = λ id.
      updates-append scenes more id ∙ (ap₂ joined_leader (same.stored id) (also.stored id)
      ∙ sym (updates-append others last id));
}
  where
    both-source : (a b : List Scene) → least_source (heads_of (a ++ b))
        ≡ lesser_source (least_source (heads_of a)) (least_source (heads_of b))
    both-source a b = ap least_source (heads-append a b) ∙ source-append (heads_of a) (heads_of b)

-- ---- a state
abbrev state_scene : Heading → List ElementValue → Scene
state_scene head stored = record { head = head; elements = stored }

state-parts : (scenes : List Scene) (head : Heading) (stored : List ElementValue) → IsBoardOf scenes head stored
    → HaveSameParts (state_scene head stored ∷ []) scenes
state-parts scenes head stored board = record {
  source = lesser_source-none head.source ∙ board.joined.source;
  settings = λ name. own (pairs head.app_state) (settings_in scenes) name board.joined.app_state;
  files = λ id. own head.files (files_in scenes) id board.joined.files;
  stored = λ id.
      ap (λ updates. stored_of updates id) (append-nil stored)
      ∙ (sym ((AreStored-itself stored board.stores.ordered).each id) ∙ board.stores.each id);
}
  where
    own : (files given : List Pair) (id : List ℕ) → AreLeastEntries given files
        → least_entry (files ++ []) id ≡ least_entry given id
    own files given id are =
        ap (λ all. least_entry all id) (append-nil files) ∙ (least-own files id are.ordered ∙ are.each id)

-- An input and a text hold scenes with the same parts.
record Stand (input state : List ℕ) : Type 0 where
  pub scenes : List Scene
  pub others : List Scene
  pub input_holds : HasScenes input scenes
  pub state_holds : HasScenes state others
  pub same : HaveSameParts others scenes

state-stands : (input state : List ℕ) → IsAnswer State input (Ok state) → Stand input state
state-stands input state (scenes, has, is) =
    let whole = board-whole input scenes is.head is.stored has is.board in
    record {
      scenes = scenes;
      others = state_scene is.head is.stored ∷ [];
      input_holds = has;
      state_holds = record {
        some = λ e. cc;
        rest = newline;
        lead = (
          newline,
          subst (λ b. IsSceneAt b (state_scene is.head is.stored) newline) (sym is.is_state)
              (state-back is.head is.stored newline whole.head_whole whole.whole whole.keys),
          refl,
        );
        space = refl;
      };
      same = state-parts scenes is.head is.stored is.board;
    }

stand-append : (input state more others : List ℕ) → Stand input state → Stand more others
    → Stand (input ++ more) (state ++ others)
stand-append input state more others first second = record {
  scenes = first.scenes ++ second.scenes;
  others = first.others ++ second.others;
  input_holds = has-append input more first.scenes second.scenes first.input_holds second.input_holds;
  state_holds = has-append state others first.others second.others first.state_holds second.state_holds;
  same = parts-append first.others first.scenes second.others second.scenes first.same second.same;
}

states-stand : (input state : List ℕ) (inputs states : List (List ℕ)) → IsAnswer State input (Ok state)
    → AreAnswers State inputs states → Stand (concat (input ∷ inputs)) (concat (state ∷ states))
states-stand input state [] [] is are =
    subst₂ Stand (sym (append-nil input)) (sym (append-nil state)) (state-stands input state is)
states-stand input state [] (other ∷ states) is are = absurd are
states-stand input state (more ∷ inputs) [] is are = absurd are
states-stand input state (more ∷ inputs) (other ∷ states) is are =
    stand-append input state (concat (more ∷ inputs)) (concat (other ∷ states)) (state-stands input state is)
    (states-stand more other inputs states are.0 are.1)

-- ---- answers
answer-same : (command : ProgramCommand) (bytes text other : List ℕ) (scenes others : List Scene) → TakesScenes command
    → HasScenes bytes scenes → HasScenes other others → HaveSameParts scenes others
    → IsAnswer command bytes (Ok text) → IsAnswer command other (Ok text)
answer-same (Restore layout) bytes text other scenes others takes has also same is = absurd takes
answer-same (Merge layout) bytes text other scenes others takes has also same (found, here, is) =
    let shown = subst (λ s. IsShownAs s layout text) (input-once bytes found scenes here has) is in (
      others,
      also,
      record {
        head = shown.head;
        stored = shown.stored;
        board = same-board scenes others shown.head shown.stored same shown.board;
        written = shown.written;
        scene = shown.scene;
        ended = shown.ended;
        rise = shown.rise;
        settled = shown.settled;
      },
    )
answer-same State bytes text other scenes others takes has also same (found, here, is) =
    let kept = subst (λ s. IsStoredAs s text) (input-once bytes found scenes here has) is in (
      others,
      also,
      record {
        head = kept.head;
        stored = kept.stored;
        board =
            same-board scenes others kept.head kept.stored same kept.board;
        is_state = kept.is_state;
      },
    )
answer-same Pictures bytes text other scenes others takes has also same (found, here, is) =
    let told = subst (λ s. HasPictures s text) (input-once bytes found scenes here has) is in (
      others,
      also,
      record {
        head = told.head;
        stored = told.stored;
        board =
            same-board scenes others told.head told.stored same told.board;
        lines = told.lines;
      },
    )
answer-same Replay bytes text other scenes others takes has also same is = absurd takes
answer-same (Recover form) bytes text other scenes others takes has also same is = absurd takes
answer-same (Paste prefix) bytes text other scenes others takes has also same is = absurd takes
answer-same Library bytes text other scenes others takes has also same is = absurd takes
answer-same (Insert insertion) bytes text other scenes others takes has also same is = absurd takes
answer-same Check bytes text other scenes others takes has also same is = absurd takes

pub states-stand_for : (command : ProgramCommand) (inputs states : List (List ℕ)) (text : List ℕ) → TakesScenes command
    → AreAnswers State inputs states
    → IsAnswer command (concat states) (Ok text) ↔ IsAnswer command (concat inputs) (Ok text)
states-stand_for command [] [] text takes are = (λ is. is, λ is. is)
states-stand_for command [] (state ∷ states) text takes are = absurd are
states-stand_for command (input ∷ inputs) [] text takes are = absurd are
states-stand_for command (input ∷ inputs) (state ∷ states) text takes are =
    let stand = states-stand input state inputs states are.0 are.1 in (
      λ is. answer-same command (concat (state ∷ states)) text (concat (input ∷ inputs)) stand.others stand.scenes takes
          stand.state_holds stand.input_holds stand.same is,
      λ is. answer-same command (concat (input ∷ inputs)) text (concat (state ∷ states)) stand.scenes stand.others takes
          stand.input_holds stand.state_holds (parts-flip stand.others stand.scenes stand.same) is,
    )
