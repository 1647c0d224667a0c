-- What holds of read scenes and of their joined head, so that the text of a scene of theirs has each layout.
use Rattle.std.proofs.Common.{lit≤, ◌≡◌, ℕ, Bool, true, false, List, [], ◌∷◌, ◌++◌, map, flat_map, get_or, Option, Some, None, IfSome, bytes_eq, codes, if◌then◌else◌, is_some, refl, sym, subst, ◌∙◌, inl, inr, IsUtf8}
use Rattle.std.specs.List.{AllByRecursion, IsDistinct, cons_option, list_all}
use Rattle.std.specs.Option.{option_map}
use Rattle.std.proofs.lemmas.List.Elements.{All-from_recursion, All-contains, All-contains_itself, recursion_from_All}
use Rattle.json_text.specs.Characters.{quote}
use Rattle.json_text.specs.Compact.{Member as Pair}
use Rattle.json_text.specs.Members.{pairs}
use Rattle.json_text.specs.Parts.{AreMembers, names_of}
use Rattle.json_text.specs.Tree.{spelling}
use Rattle.json_text.specs.Value.{IsCompact}
use Rattle.scene_json.specs.Layout.{laid_out}
use Rattle.scene_json.specs.Named.{value_at, HaveRisingNames}
use Rattle.json_text.proofs.CallerLemmas.{quote-compact, literal-compact, object-compact, IsDistinct-first_texts}
use Rattle.scene_json.proofs.CallerLemmas.{rising_distinct}
use Rattle.index_repair.specs.Repair.{repaired}
use Rattle.frac_keys.specs.Keys.{bytes_less}
use Rattle.json_text.specs.FirstOccurrences.{first_texts}
use Rattle.elem.specs.ElementValue.{ElementValue}
use Rattle.elem.specs.Forms.{find_in}
use Rattle.elem.specs.Texts.{element_members, element_text, text_or_null}
use Rattle.elem.proofs.CallerLemmas.{element-are, IsKept, AreKept}
use Rattle.elem_read.specs.Elements.{AreRead}
use Rattle.elem_read.specs.Reading.{IsElementIn}
use Rattle.elem_read.proofs.CallerLemmas.{AllFound, found-has, found-self, object-nests, says-element, says-written, restored-nest, restored-named}
use Rattle.file_table.specs.References.{references, referred_files}
use Rattle.file_table.specs.Table.{AreLeastEntries}
use Rattle.file_table.proofs.CallerLemmas.{least-is, found, IsDistinct-found}
use Rattle.index_repair.specs.Keyed.{index_of, keyed}
use Rattle.index_repair.proofs.CallerLemmas.{repaired-kept}
use Rattle.elem_store.specs.Updates.{is_best, AreStored}
use Rattle.elem_store.proofs.CallerLemmas.{filter-Contains, AreStored-best}
use Rattle.scene_file.specs.Heads.{Heading, IsJoinedHead, lesser_source, least_source, settings_of, files_of}
use Rattle.scene_file.specs.Layouts.{IsWrittenIn}
use Rattle.scene_file.specs.Reading.{IsSource, loaded, IsHeadOf, IsSceneOf}
use Rattle.scene_file.specs.Scenes.{scene_text}
use Rattle.scene_file.specs.declared.layout.Layout.{Layout}
use Rattle.scene_file.specs.declared.layout.Layout.TheVariants.{Compact, Pretty}
use Rattle.scene_file.specs.declared.scene.Scene.{Scene}
use Rattle.scene_file.proofs.Nesting.{nests-value_unless_null}
use Rattle.scene_file.proofs.SceneTexts.{scene-compact, scene-told}

-- ---- elements
element-kept : (value : List ℕ) (e : ElementValue) → IsElementIn value e → IsKept e
element-kept value e is =
    let inner : AreMembers 119 is.members =
    object-nests 120 value is.members (lit≤ tt) (lit≤ tt) is.shallow is.no_selection.object in
    record {
      element = says-element (find_in is.restored) e (restored-nest is.members is.restored inner is.restores) is.says;
      written =
          says-written (find_in is.restored) e (restored-named 119 is.members is.restored inner is.restores) is.says;
    }

read-kept : (values : List (List ℕ)) (elements : List ElementValue) → AreRead values elements → AreKept elements
read-kept [] elements none = subst AreKept (sym none) tt
read-kept (v ∷ values) elements (inl (dropped, read)) = read-kept values elements read
read-kept (v ∷ values) elements (inr (e, others, all, is, read)) =
    subst AreKept (sym all) (element-kept v e is, read-kept values others read)

loaded-kept : (elements : List ElementValue) → AreKept elements → AreKept (loaded elements)
loaded-kept elements all =
    elim (list_all (λ (e : ElementValue). is_some e.index) elements) as
    (λ (b : Bool). AreKept (if b then elements else keyed elements (repaired (map index_of elements)))) [
      | true ↦ all
      | false ↦ repaired-kept elements all
    ]

-- ---- heads
-- a name is a text, and a value nests at most 126
pub record Fits (name value : List ℕ) : Type 0 where
  pub named : IsUtf8 name
  pub nests : IsCompact 126 value

abbrev pub AllFit : List Pair → Type 0
AllFit ms = AllByRecursion (λ (m : Pair). Fits m.0 m.1) ms

-- The source is a text, and the settings and the files are members that nest at most 126.
pub record IsFit (head : Heading) : Type 0 where
  pub source : IfSome head.source IsUtf8
  pub settings : AllFit (pairs head.app_state)
  pub files : AllFit head.files

pub fit-members : (ms : List Pair) → AreMembers 126 ms → AllFit ms
fit-members ms are = by ms are.named are.valued
  where
    by : (ms : List Pair) → AllByRecursion (λ (m : Pair). IsUtf8 m.0) ms
        → AllByRecursion (λ (m : Pair). IsCompact 126 m.1) ms → AllFit ms
    by [] named valued = tt
    by (m ∷ ms) named valued = (record { named = named.0; nests = valued.0 }, by ms named.1 valued.1)

members-fit : (ms : List Pair) → IsDistinct bytes_eq (names_of ms) → AllFit ms → AreMembers 126 ms
members-fit ms apart all = record { named = names ms all; valued = values ms all; distinct = apart }
  where
    names : (ms : List Pair) → AllFit ms → AllByRecursion (λ (m : Pair). IsUtf8 m.0) ms
    names [] all = tt
    names (m ∷ ms) all = (all.0.named, names ms all.1)

    values : (ms : List Pair) → AllFit ms → AllByRecursion (λ (m : Pair). IsCompact 126 m.1) ms
    values [] all = tt
    values (m ∷ ms) all = (all.0.nests, values ms all.1)

-- what is found among members whose names rise is all of them
fit-found : (ms : List Pair) → HaveRisingNames ms → AllFound Fits (find_in ms) → AllFit ms
fit-found ms rise each = by ms (found-self ms (rising_distinct ms rise))
  where
    by : (os : List Pair) → AllByRecursion (λ (m : Pair). value_at m.0 ms ≡ Some m.1) os → AllFit os
    by [] here = tt
    by (o ∷ os) here = (each o.0 o.1 here.0, by os here.1)

pub source-fits : (found source : Option (List ℕ)) → IsSource found source → IfSome source IsUtf8
source-fits found None is = tt
source-fits found (Some source) is = is.0

head-fits : (members : List Pair) (head : Heading) → AreMembers 127 members → IsHeadOf members head → IsFit head
head-fits members head are is =
    let settings = found-has Fits is.settings
    (fit-members is.settings (nests-value_unless_null (codes "appState") members is.settings are is.state)) in
    let entries = found-has Fits is.entries
    (fit-members is.entries (nests-value_unless_null (codes "files") members is.entries are is.table)) in
    record {
      source = source-fits (value_at (codes "source") members) head.source is.source;
      settings = fit-found (pairs head.app_state) is.state_ordered
          (λ name value e. settings name value (sym (is.app_state name) ∙ e));
      files = fit-found head.files is.files_ordered (λ name value e. entries name value (sym (is.files name) ∙ e));
    }

-- A scene's elements are elements, and its head fits.
pub record IsSound (scene : Scene) : Type 0 where
  pub head : IsFit scene.head
  pub elements : AreKept scene.elements

pub scene-sound : (text : List ℕ) (scene : Scene) → IsSceneOf text scene → IsSound scene
scene-sound text scene is = record {
  head = head-fits is.members scene.head is.object.are_members is.head;
  elements = subst AreKept (sym is.are_loaded) (loaded-kept is.elements (read-kept is.values is.elements is.read));
}

-- ---- the joined head
pub lesser-fits : (source other : Option (List ℕ)) → IfSome source IsUtf8 → IfSome other IsUtf8
    → IfSome (lesser_source source other) IsUtf8
lesser-fits None other first second = second
lesser-fits (Some source) None first second = first
lesser-fits (Some source) (Some other) first second =
    elim (bytes_less (quote other) (quote source)) as (λ (b : Bool). IfSome (if b then Some other else Some source)
    IsUtf8) [ true ↦ second | false ↦ first ]

least-fits : (heads : List Heading) → AllByRecursion IsFit heads → IfSome (least_source heads) IsUtf8
least-fits [] all = tt
least-fits (head ∷ heads) all = lesser-fits head.source (least_source heads) all.0.source (least-fits heads all.1)

append-fit : (ms ns : List Pair) → AllFit ms → AllFit ns → AllFit (ms ++ ns)
append-fit [] ns first second = second
append-fit (m ∷ ms) ns first second = (first.0, append-fit ms ns first.1 second)

settings-fit : (heads : List Heading) → AllByRecursion IsFit heads → AllFit (settings_of heads)
settings-fit [] all = tt
settings-fit (head ∷ heads) all =
    append-fit (pairs head.app_state) (settings_of heads) all.0.settings (settings-fit heads all.1)

files-fit : (heads : List Heading) → AllByRecursion IsFit heads → AllFit (files_of heads)
files-fit [] all = tt
files-fit (head ∷ heads) all = append-fit head.files (files_of heads) all.0.files (files-fit heads all.1)

least-entries-fit : (given files : List Pair) → AllFit given → AreLeastEntries given files → AllFit files
least-entries-fit given files all are = fit-found files are.ordered (λ name value e.
    let least = (least-is given name value).0 (sym (are.each name) ∙ e) in
    All-contains (λ (m : Pair). Fits m.0 m.1) given (
      name,
      value,
    ) (All-from_recursion (λ (m : Pair). Fits m.0 m.1) given all) least.among)

pub joined-fits : (heads : List Heading) (head : Heading) → AllByRecursion IsFit heads → IsJoinedHead heads head
    → IsFit head
joined-fits heads head all is = record {
  source = subst (λ source. IfSome source IsUtf8) (sym is.source) (least-fits heads all);
  settings = least-entries-fit (settings_of heads) (pairs head.app_state) (settings-fit heads all) is.app_state;
  files = least-entries-fit (files_of heads) head.files (files-fit heads all) is.files;
}

-- ---- the text of a scene
pub source-compact : (source : Option (List ℕ)) → IfSome source IsUtf8 → IsCompact 0 (text_or_null source)
source-compact None is = literal-compact 0 _ (inr (inl refl))
source-compact (Some source) is = quote-compact 0 source is

element-compact : (e : ElementValue) → IsKept e → IsCompact 120 (element_text e)
element-compact e is = object-compact 119 (element_members e) (element-are e is.element is.written)

elements-compact : (elements : List ElementValue) → AreKept elements
    → AllByRecursion (λ e. IsCompact 120 (element_text e)) elements
elements-compact [] all = tt
elements-compact (e ∷ elements) all = (element-compact e all.0, elements-compact elements all.1)

-- the files that are named
pub referred-fit : (files : List Pair) (ids : List (List ℕ)) → AllFit files → AllFit (found files ids)
referred-fit files [] all = tt
referred-fit files (id ∷ ids) all =
    by (value_at id files) (λ entry e. found-has Fits files all id entry e) (referred-fit files ids all)
  where
    by : (o : Option (List ℕ)) → ((entry : List ℕ) → o ≡ Some entry → Fits id entry) → AllFit (found files ids)
        → AllFit (cons_option (option_map (λ e. (id, e)) o) (found files ids))
    by None each rest = rest
    by (Some entry) each rest = (each entry refl, rest)

pub scene-text-compact : (head : Heading) (elements : List ElementValue) → IsFit head
    → HaveRisingNames (pairs head.app_state) → AreKept elements → IsCompact 128 (scene_text head elements)
scene-text-compact head elements fit rise kept =
    let ids = first_texts (references elements) in
    let files = members-fit (found head.files ids)
    (IsDistinct-found head.files ids (IsDistinct-first_texts (references elements)))
    (referred-fit head.files ids fit.files) in
    let settings = members-fit (pairs head.app_state) (rising_distinct (pairs head.app_state) rise) fit.settings in
    subst (IsCompact 128) (scene-told head elements (referred_files head.files elements) refl)
    (scene-compact head elements (referred_files head.files elements) (source-compact head.source fit.source)
    (All-from_recursion (λ e. IsCompact 120 (element_text e)) elements (elements-compact elements kept))
    (object-compact 126 (pairs head.app_state) settings)
    (object-compact 126 (referred_files head.files elements) files))

pub written-exists : (layout : Layout) (text : List ℕ) → IsCompact 128 text → (written : List ℕ)
    × IsWrittenIn layout text written
written-exists Compact text is = (text, refl)
written-exists Pretty text is =
    (spelling (laid_out 0 is.tree), record { tree = is.tree; good = is.good; spells = is.spells; laid = refl })

-- ---- what is stored of read scenes
abbrev pub HasText : Scene → Type 0
HasText scene = (text : List ℕ) × IsSceneOf text scene

pub all-sound : (scenes : List Scene) → AllByRecursion HasText scenes → AllByRecursion IsSound scenes
all-sound [] all = tt
all-sound (scene ∷ scenes) all = (scene-sound all.0.0 scene all.0.1, all-sound scenes all.1)

pub heads-fit : (scenes : List Scene) → AllByRecursion IsSound scenes
    → AllByRecursion IsFit (map (λ (scene : Scene). scene.head) scenes)
heads-fit [] all = tt
heads-fit (scene ∷ scenes) all = (all.0.head, heads-fit scenes all.1)

append-kept : (es fs : List ElementValue) → AreKept es → AreKept fs → AreKept (es ++ fs)
append-kept [] fs first second = second
append-kept (e ∷ es) fs first second = (first.0, append-kept es fs first.1 second)

pub updates-kept : (scenes : List Scene) → AllByRecursion IsSound scenes
    → AreKept (flat_map (λ (scene : Scene). scene.elements) scenes)
updates-kept [] all = tt
updates-kept (scene ∷ scenes) all = append-kept scene.elements (flat_map (λ (scene : Scene). scene.elements) scenes)
    all.0.elements (updates-kept scenes all.1)

-- stored elements are updates
pub stored-kept : (updates stored : List ElementValue) → AreKept updates → AreStored updates stored → AreKept stored
stored-kept updates stored all are =
    recursion_from_All IsKept stored (λ i e within.
    All-contains IsKept updates (get_or stored i e) (All-from_recursion IsKept updates all)
    (filter-Contains (is_best updates (get_or stored i e).id) updates (get_or stored i e)
    (AreStored-best updates stored (get_or stored i e) are (All-contains_itself stored i e within))).0)
