-- Each text behind an offset is a scene or has a first fault, and heads are joined to one.
use Rattle.std.proofs.Common.{◌≡◌, ◌≢◌, ◌⊎◌, inl, inr, ℕ, ◌≤◌, ◌<◌, List, [], Bool, true, false, Option, Some, None, length, drop, codes, bytes_eq, if◌then◌else◌, refl, sym, ap, subst, ◌∙◌, lit≤}
use Rattle.std.specs.List.{AllByRecursion}
use Rattle.std.proofs.lemmas.Bool.{cases_Bool, both_ways}
use Rattle.json_text.specs.Compact.{Member as Pair, object_text}
use Rattle.json_text.specs.Parts.{AreMembers, names_of}
use Rattle.json_text.specs.Tree.{null_word}
use Rattle.json_text.specs.Value.{IsCompact, Stands}
use Rattle.scene_json.specs.Named.{value_at, AreSameMembers, HaveRisingNames}
use Rattle.json_text.proofs.CallerLemmas.{bytes_eq-true, bytes_eq-same, Value-compact, array-or-not, object-or-not}
use Rattle.json_reader.proofs.CallerLemmas.{value-or-fault}
use Rattle.scene_json.proofs.CallerLemmas.{tabled}
use Rattle.elem.specs.Forms.{find_in, IsText, IsObject}
use Rattle.elem.proofs.CallerLemmas.{text-once}
use Rattle.elem_read.proofs.CallerLemmas.{Decided, Fits, fits-in, text-or-not, unpaired, pairs-unpaired, not-named, read-or-faulty}
use Rattle.file_table.specs.Table.{AreLeastEntries}
use Rattle.file_table.proofs.CallerLemmas.{files-exist}
use Rattle.scene_file.specs.Heads.{Heading, IsJoinedHead, least_source, settings_of, files_of}
use Rattle.scene_file.specs.Reading.{value_unless_null, HasItems, HasMembers, IsSource, IsScene, loaded, IsHeadOf, IsSceneOf, IsSceneFault, IsSceneAt, IsSceneFaultAt}
use Rattle.scene_file.specs.declared.scene.Scene.{Scene}
use Rattle.scene_file.specs.declared.fault.SceneFault.{SceneFault}
use Rattle.scene_file.specs.declared.fault.SceneFault.TheVariants.{Json, NotObject, NotScene, Elements, AppState, Files, Element}
use Rattle.scene_file.proofs.Blanks.{Stands-behind}

-- ---- the joined head
pub joined-exists : (heads : List Heading) → (head : Heading) × IsJoinedHead heads head
joined-exists heads =
    let settings = files-exist (settings_of heads) in
    let files = files-exist (files_of heads) in (
      record { source = least_source heads; app_state = unpaired settings.0; files = files.0 },
      record {
        source = refl;
        app_state = subst (AreLeastEntries (settings_of heads)) (sym (pairs-unpaired settings.0))
            settings.1;
        files = files.1;
      },
    )

-- ---- what is given
pub fits-value_unless_null : (name : List ℕ) (members : List Pair) → AreMembers 127 members
    → Fits (value_unless_null name members)
fits-value_unless_null name members are =
    elim (value_at name members) as (λ (found : Option (List ℕ)). Fits found
    → Fits (elim found [ None ↦ None | Some value ↦ if bytes_eq value null_word then None else Some value ])) [
      | None ↦ λ fits. tt
      | Some value ↦ λ fits. elim (bytes_eq value null_word) as (λ (b : Bool). Fits (if b then None else Some value))
          [ true ↦ tt | false ↦ fits ]
    ] (fits-in 127 members (lit≤ tt) are name)

pub items-or-not : (found : Option (List ℕ)) → Fits found → Decided (HasItems found)
items-or-not None fits = inl ([], refl)
items-or-not (Some value) fits = elim (array-or-not value fits) [
  | inl (items, all, e) ↦ inl (items, (all, e))
  | inr none ↦ inr (λ items has. none items has.1)
]

pub members-or-not : (found : Option (List ℕ)) → Fits found → Decided (HasMembers found)
members-or-not None fits = inl ([], refl)
members-or-not (Some value) fits = elim (object-or-not value fits) [
  | inl (members, are, e) ↦ inl (members, record { are_members = are; spelled = e })
  | inr none ↦ inr (λ members has. none members has.spelled)
]

pub items-compact : (found : Option (List ℕ)) (values : List (List ℕ)) → HasItems found values
    → AllByRecursion (IsCompact 127) values
items-compact None values none = subst (AllByRecursion (IsCompact 127)) (sym none) tt
items-compact (Some value) values has = has.0

pub is-text : (found : Option (List ℕ)) (wanted : List ℕ) → Fits found → IsText found wanted ⊎ (IsText found wanted → ⊥)
is-text found wanted fits = by (text-or-not found fits)
  where
    by : Decided (IsText found) → IsText found wanted ⊎ (IsText found wanted → ⊥)
    by (inr none) = inr (λ is. none wanted is)
    by (inl (text, is)) = elim (cases_Bool (bytes_eq text wanted)) [
      | inl e ↦ inl (subst (IsText found) (bytes_eq-true text wanted e) is)
      | inr e ↦ inr (λ also. both_ways (bytes_eq text wanted) e
          (ap (λ t. bytes_eq t wanted) (text-once found text wanted is also) ∙ bytes_eq-same wanted))
    ]

-- ---- the head
source-of : (found : Option (List ℕ)) → Fits found → (source : Option (List ℕ)) × IsSource found source
source-of found fits = elim (text-or-not found fits) [
  | inl (text, is) ↦ (Some text, is)
  | inr none ↦ (None, none)
]

ordered : (members : List Pair) → (all : List Pair) × HaveRisingNames all × AreSameMembers all members
ordered members = tabled (names_of members) (find_in members) (λ name none. not-named name members none)

head-of : (members settings entries : List Pair) → AreMembers 127 members
    → HasMembers (value_unless_null (codes "appState") members) settings
    → HasMembers (value_unless_null (codes "files") members) entries
    → (head : Heading) × IsHeadOf members head
head-of members settings entries are state table =
    let source = source-of (value_at (codes "source") members) (fits-in 127 members (lit≤ tt) are (codes "source")) in
    let (set, set_rise, set_same) = ordered settings in
    let (files, files_rise, files_same) = ordered entries in (
      record { source = source.0; app_state = unpaired set; files = files },
      record {
        source = source.1;
        settings = settings;
        state = state;
        state_ordered = subst HaveRisingNames (sym (pairs-unpaired set)) set_rise;
        app_state = λ name. ap (value_at name) (pairs-unpaired set) ∙ set_same name;
        entries = entries;
        table = table;
        files_ordered = files_rise;
        files = files_same;
      },
    )

-- ---- scenes
abbrev Told : List ℕ → Type 0
Told text = ((scene : Scene) × IsSceneOf text scene) ⊎ ((fault : SceneFault) × IsSceneFault text fault)

scene-or-faulty : (text : List ℕ) → IsCompact 128 text → Told text
scene-or-faulty text is = by (object-or-not text is)
  where
    parts : (members : List Pair) → IsObject text members → IsScene members
        → Decided (HasItems (value_unless_null (codes "elements") members))
        → Decided (HasMembers (value_unless_null (codes "appState") members))
        → Decided (HasMembers (value_unless_null (codes "files") members)) → Told text
    parts members object kind (inr none) settings entries = inr (Elements, (members, object, kind, none))
    parts members object kind (inl items) (inr none) entries = inr (AppState, (members, object, kind, items, none))
    parts members object kind (inl items) (inl settings) (inr none) =
        inr (Files, (members, object, kind, items, settings, none))
    parts members object kind (inl (values, items)) (inl (settings, state)) (inl (entries, table)) =
        elim (read-or-faulty values (items-compact (value_unless_null (codes "elements") members) values items)) [
          | inl (elements, read) ↦
              let head = head-of members settings entries object.are_members state table in
              inl (
                record { head = head.0; elements = loaded elements },
                record {
                  members = members;
                  object = object;
                  kind = kind;
                  head = head.1;
                  values = values;
                  items = items;
                  elements = elements;
                  read = read;
                  are_loaded = refl;
                },
              )
          | inr (place, fault, faulty) ↦ inr (
            Element place fault,
            (members, object, kind, (values, items, faulty), (settings, state), (entries, table)),
          )
        ]

    by : ((members : List Pair) × AreMembers 127 members × (text ≡ object_text members))
        ⊎ ((members : List Pair) → text ≢ object_text members) → Told text
    by (inr none) = inr (NotObject, λ members object. none members object.spelled)
    by (inl (members, are, e)) =
        let object : IsObject text members = record { are_members = are; spelled = e } in
        elim (is-text (value_at (codes "type") members) (codes "excalidraw")
        (fits-in 127 members (lit≤ tt) are (codes "type"))) [
          | inr none ↦ inr (NotScene, (members, object, none))
          | inl kind ↦ parts members object kind (items-or-not (value_unless_null (codes "elements") members)
              (fits-value_unless_null (codes "elements") members are))
              (members-or-not (value_unless_null (codes "appState") members)
              (fits-value_unless_null (codes "appState") members are))
              (members-or-not (value_unless_null (codes "files") members)
              (fits-value_unless_null (codes "files") members are))
        ]

pub fault-at : (bytes : List ℕ) (at : ℕ) (text rest : List ℕ) (fault : SceneFault) → Stands (drop at bytes) text rest
    → IsSceneFault text fault → IsSceneFaultAt bytes at fault
fault-at bytes at text rest (Json fault) stands is = absurd is
fault-at bytes at text rest NotObject stands is = (text, rest, stands, is)
fault-at bytes at text rest NotScene stands is = (text, rest, stands, is)
fault-at bytes at text rest Elements stands is = (text, rest, stands, is)
fault-at bytes at text rest AppState stands is = (text, rest, stands, is)
fault-at bytes at text rest Files stands is = (text, rest, stands, is)
fault-at bytes at text rest (Element place why) stands is = (text, rest, stands, is)

-- A scene that ends within the bytes stands at the offset, or there is a first fault.
pub record StandsAt (bytes : List ℕ) (at : ℕ) (scene : Scene) (end : ℕ) : Type 0 where
  pub behind : at < end
  pub within : end ≤ length bytes
  pub stands : IsSceneAt (drop at bytes) scene (drop end bytes)

pub scene-or-fault : (bytes : List ℕ) (at : ℕ) → at ≤ length bytes
    → ((scene : Scene) × (end : ℕ) × StandsAt bytes at scene end)
    ⊎ ((fault : SceneFault) × IsSceneFaultAt bytes at fault)
scene-or-fault bytes at within = elim (value-or-fault bytes at within) [
  | inr (fault, is) ↦ inr (Json fault, is)
  | inl (text, end, small, stands) ↦ elim (scene-or-faulty text (Value-compact stands.reads)) [
    | inl (scene, is) ↦ inl (
      scene,
      end,
      record {
        behind = Stands-behind bytes text at end small stands;
        within = small;
        stands = record { text = text; stands = stands; says = is };
      },
    )
    | inr (fault, is) ↦ inr (fault, fault-at bytes at text (drop end bytes) fault stands is)
  ]
]

pub scene-law : (bytes : List ℕ) (at : ℕ) → at ≤ length bytes
    → ((scene : Scene) × (end : ℕ) × (at < end) × (end ≤ length bytes)
    × IsSceneAt (drop at bytes) scene (drop end bytes))
    ⊎ ((fault : SceneFault) × IsSceneFaultAt bytes at fault)
scene-law bytes at within = elim (scene-or-fault bytes at within) [
  | inl (scene, end, s) ↦ inl (scene, end, s.behind, s.within, s.stands)
  | inr fault ↦ inr fault
]
