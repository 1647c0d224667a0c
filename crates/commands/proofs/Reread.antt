-- What was written of scenes is read as whole scenes with the same board.
use Rattle.std.proofs.Common.{◌≡◌, Bool, ℕ, List, [], ◌∷◌, ◌++◌, true, All, is_some, bytes_eq, refl, sym, ap, ◌∙◌, subst}
use Rattle.std.specs.List.Sorted.{IsPermutation}
use Rattle.std.specs.Cmp.Lexicographic.{nat_list_eq_equiv}
use Rattle.std.proofs.lemmas.List.{append-nil}
use Rattle.std.proofs.lemmas.List.Elements.{All-nil, All-cons, All-head, All-tail, All-append, All-filter, All-weaker}
use Rattle.std.proofs.lemmas.List.Sums.{AllPass-from_list_all, list_all-from_AllPass}
use Rattle.std.proofs.lemmas.Map.Keys.{IsDistinct-IsPermutation}
use Rattle.json_text.specs.Members.{pairs}
use Rattle.elem.specs.ElementValue.{ElementValue}
use Rattle.elem.specs.Facts.{IsElement}
use Rattle.elem.specs.Said.{HasValidTexts as IsWrittenElement, AreElements}
use Rattle.elem.specs.Texts.{element_text}
use Rattle.elem_read.proofs.CallerLemmas.{IsSound-read}
use Rattle.elem_read.specs.Reading.{IsWholeElement}
use Rattle.elem_store.specs.Updates.{AreStored, ids_of}
use Rattle.elem_store.proofs.CallerLemmas.{store-unique}
use Rattle.file_table.specs.Table.{AreLeastEntries}
use Rattle.file_table.proofs.CallerLemmas.{AreLeastEntries-own}
use Rattle.elem.specs.Order.{HaveDistinctIds}
use Rattle.index_repair.specs.Keyed.{HaveKeysOrNone, HaveRisingKeys}
use Rattle.view.specs.Shown.{is_live, live_elements}
use Rattle.view.specs.Settled.{AreSettled}
use Rattle.view.proofs.CallerLemmas.{HaveDistinctIds-rising, live_elements-rise, live_elements-live, shown-is, shown-again}
use Rattle.scene_file.specs.Heads.{Heading, IsJoinedHead}
use Rattle.scene_file.specs.Layouts.{IsWrittenIn}
use Rattle.scene_file.specs.Reading.{IsSceneAt}
use Rattle.scene_file.specs.Scenes.{scene_text}
use Rattle.scene_file.specs.Whole.{IsWholeHead, IsWholeScene, HaveKeys, with_named_files}
use Rattle.scene_file.specs.declared.layout.Layout.{Layout}
use Rattle.scene_file.specs.declared.scene.Scene.{Scene}
use Rattle.scene_file.proofs.CallerLemmas.{lesser_source-none, named-rise, head-once, scene-back, named-text, keys-or-none, rising-keys, stored-all, scene-whole, joined-whole, stored-whole, wholes-sound}
use Rattle.shown_scenes.proofs.CallerLemmas.{shown-whole}
use Rattle.commands.specs.Answers.{IsShownAs}
use Rattle.commands.specs.Boards.{IsBoardOf, heads_of, updates_of, shown_of}
use Rattle.commands.specs.Faults.{newline}
use Rattle.commands.specs.Input.{ScenesLead, HasScenes}
use Rattle.commands.proofs.ById.{by_id, by_id-moved, AreStored-by_id}

-- ---- the scenes of an input are whole, and so is their board
leading-whole : (bytes : List ℕ) (scenes : List Scene) (rest : List ℕ) → ScenesLead bytes scenes rest
    → All IsWholeScene scenes
leading-whole bytes [] rest lead = All-nil IsWholeScene
leading-whole bytes (scene ∷ scenes) rest (next, at, lead) =
    All-cons IsWholeScene scene scenes (scene-whole bytes scene next at) (leading-whole next scenes rest lead)

pub scenes-whole : (bytes : List ℕ) (scenes : List Scene) → HasScenes bytes scenes → All IsWholeScene scenes
scenes-whole bytes scenes has = leading-whole bytes scenes has.rest has.lead

pub heads-whole : (scenes : List Scene) → All IsWholeScene scenes → All IsWholeHead (heads_of scenes)
heads-whole [] whole = All-nil IsWholeHead
heads-whole (scene ∷ scenes) whole =
    All-cons IsWholeHead scene.head (heads_of scenes) (All-head IsWholeScene scene scenes whole).head
    (heads-whole scenes (All-tail IsWholeScene scene scenes whole))

updates-all : (P : ElementValue → Type 0) (scenes : List Scene)
    → ((scene : Scene) → IsWholeScene scene → All P scene.elements) → All IsWholeScene scenes
    → All P (updates_of scenes)
updates-all P [] each whole = All-nil P
updates-all P (scene ∷ scenes) each whole =
    All-append P scene.elements (updates_of scenes) (each scene (All-head IsWholeScene scene scenes whole))
    (updates-all P scenes each (All-tail IsWholeScene scene scenes whole))

-- the updates of an input are elements
pub updates-elements : (bytes : List ℕ) (scenes : List Scene) → HasScenes bytes scenes → AreElements (updates_of scenes)
updates-elements bytes scenes has =
    All-weaker IsWholeElement (λ e. IsElement e × IsWrittenElement e)
    (λ e whole. let sound = IsSound-read (element_text e) e whole in (sound.is_element, sound.written))
    (updates_of scenes)
    (updates-all IsWholeElement scenes (λ scene is. is.elements) (scenes-whole bytes scenes has))

-- whether an element has a key
abbrev has_key : ElementValue → Bool
has_key e = is_some e.index

abbrev HasKey : ElementValue → Type 0
HasKey e = has_key e ≡ true

pub record IsWholeBoard (head : Heading) (stored : List ElementValue) : Type 0 where
  pub head_whole : IsWholeHead head
  pub whole : All IsWholeElement stored
  pub keys : HaveKeys stored

pub board-whole : (bytes : List ℕ) (scenes : List Scene) (head : Heading) (stored : List ElementValue)
    → HasScenes bytes scenes → IsBoardOf scenes head stored → IsWholeBoard head stored
board-whole bytes scenes head stored has board =
    let whole = scenes-whole bytes scenes has in
    record {
      head_whole = joined-whole (heads_of scenes) head (heads-whole scenes whole) board.joined;
      whole = stored-whole (updates_of scenes) stored (updates-all IsWholeElement scenes (λ scene is. is.elements)
          whole) board.stores;
      keys = list_all-from_AllPass has_key stored
          (stored-all HasKey (updates_of scenes) stored board.stores
          (updates-all HasKey scenes (λ scene is. AllPass-from_list_all has_key scene.elements is.keys) whole));
    }

-- ---- what is shown is read as one scene
-- the scene that a board shows
abbrev pub shown_scene : Heading → List ElementValue → Scene
shown_scene head stored = record { head = with_named_files head (shown_of stored); elements = shown_of stored }

pub shown-read : (bytes : List ℕ) (scenes : List Scene) (layout : Layout) (text : List ℕ) → HasScenes bytes scenes
    → (is : IsShownAs scenes layout text)
    → HasScenes text (shown_scene is.head is.stored ∷ [])
shown-read bytes scenes layout text has is =
    let board = board-whole bytes scenes is.head is.stored has is.board in
    let live = live_elements is.stored in
    let each : All IsWholeElement (shown_of is.stored) =
    shown-whole live (All-filter is_live IsWholeElement is.stored board.whole) in
    record {
      some = λ e. cc;
      rest = newline;
      lead = (
        newline,
        subst (λ b. IsSceneAt b (shown_scene is.head is.stored) newline) (sym is.ended)
            (scene-back layout is.head (shown_of is.stored) is.written newline board.head_whole each
            (rising-keys (shown_of is.stored) is.rise) is.scene),
        refl,
      );
      space = refl;
    }

-- ---- the board of the scene that a board shows shows it again
joined-own : (head : Heading) → IsWholeHead head → (elements : List ElementValue)
    → IsJoinedHead (with_named_files head elements ∷ []) (with_named_files head elements)
joined-own head whole elements = record {
  source = sym (lesser_source-none head.source);
  app_state = subst (λ given. AreLeastEntries given (pairs head.app_state)) (sym (append-nil (pairs head.app_state)))
      (AreLeastEntries-own (pairs head.app_state) whole.settings_ordered);
  files =
      let files = (with_named_files head elements).files in
      subst (λ given. AreLeastEntries given files) (sym (append-nil files))
      (AreLeastEntries-own files (named-rise head.files elements whole.files_ordered));
}

module _ (stored : List ElementValue) (rise : HaveDistinctIds (live_elements stored))
    (whole : All IsWholeElement stored) where
  live-keys : HaveKeysOrNone (live_elements stored)
  live-keys = keys-or-none (live_elements stored)
      (wholes-sound (live_elements stored) (All-filter is_live IsWholeElement stored whole))

  shown-distinct : HaveDistinctIds (shown_of stored)
  shown-distinct =
      IsDistinct-IsPermutation bytes_eq nat_list_eq_equiv.symm (ids_of (live_elements stored))
      (ids_of (shown_of stored)) (shown-is (live_elements stored) live-keys).ids rise

  shown-stored : AreStored (shown_of stored ++ []) (by_id (shown_of stored))
  shown-stored = subst (λ updates. AreStored updates (by_id (shown_of stored))) (sym (append-nil (shown_of stored)))
      (AreStored-by_id (shown_of stored) shown-distinct)

  -- what is stored of what is shown shows it
  shown-shows : (news : List ElementValue) → AreStored (shown_of stored ++ []) news → shown_of news ≡ shown_of stored
  shown-shows news are =
      let same = store-unique (shown_of stored ++ []) news (by_id (shown_of stored)) are shown-stored in
      shown-again (live_elements stored) news rise live-keys (live_elements-live stored)
      (subst (IsPermutation (shown_of stored)) (sym same) (by_id-moved (shown_of stored)))

live-distinct : (scenes : List Scene) (head : Heading) (stored : List ElementValue) → IsBoardOf scenes head stored
    → HaveDistinctIds (live_elements stored)
live-distinct scenes head stored board =
    HaveDistinctIds-rising (live_elements stored) (live_elements-rise stored board.stores.ordered)

module _ (bytes : List ℕ) (scenes : List Scene) (head : Heading) (stored : List ElementValue)
    (has : HasScenes bytes scenes) (board : IsBoardOf scenes head stored) where
  -- the same text, of the board and of the board of what it shows
  same-text : (news : List ElementValue) → shown_of news ≡ shown_of stored
      → scene_text (with_named_files head (shown_of stored)) (shown_of news) ≡ scene_text head (shown_of stored)
  same-text news same =
      ap (scene_text (with_named_files head (shown_of stored))) same ∙ named-text head (shown_of stored)

  pub shown-once_more : (layout : Layout) (text : List ℕ) → IsShownAs scenes layout text
      → IsShownAs (shown_scene head stored ∷ []) layout text
  shown-once_more layout text is =
      let whole = board-whole bytes scenes head stored has board in
      let distinct = live-distinct scenes head stored board in
      let news = by_id (shown_of stored) in
      let are = shown-stored stored distinct whole.whole in
      let same = shown-shows stored distinct whole.whole news are in
      let head_same = head-once is.board.joined board.joined in
      let kept = store-unique (updates_of scenes) is.stored stored is.board.stores board.stores in
      let shows = ap shown_of kept ∙ sym same in
      record {
        head = with_named_files head (shown_of stored);
        stored = news;
        board = record { joined = joined-own head whole.head_whole (shown_of stored); stores = are };
        written = is.written;
        scene = subst (λ t. IsWrittenIn layout t is.written) ((λ i. scene_text (head_same i) (shown_of (kept i)))
            ∙ sym (same-text news same)) is.scene;
        ended = is.ended;
        rise = subst HaveRisingKeys shows is.rise;
        settled = subst AreSettled shows is.settled;
      }

  pub shown-as_before : (layout : Layout) (text : List ℕ) → IsShownAs (shown_scene head stored ∷ []) layout text
      → HaveRisingKeys (shown_of stored) → AreSettled (shown_of stored) → IsShownAs scenes layout text
  shown-as_before layout text is rise settled =
      let whole = board-whole bytes scenes head stored has board in
      let distinct = live-distinct scenes head stored board in
      let same = shown-shows stored distinct whole.whole is.stored is.board.stores in
      let head_same = head-once is.board.joined (joined-own head whole.head_whole (shown_of stored)) in
      record {
        head = head;
        stored = stored;
        board = board;
        written = is.written;
        scene = subst (λ t. IsWrittenIn layout t is.written) ((λ i. scene_text (head_same i) (shown_of is.stored))
            ∙ same-text is.stored same) is.scene;
        ended = is.ended;
        rise = rise;
        settled = settled;
      }
