-- A scene and a fault are determined by the text, and a joined head by the heads.
use Rattle.std.proofs.Common.{◌≡◌, ℕ, List, Option, Some, None, true, codes, drop, refl, sym, ap, ap₂, ◌∙◌, subst}
use Rattle.json_text.specs.Characters.{is_blank}
use Rattle.json_text.specs.Compact.{Member as Pair}
use Rattle.json_text.specs.Members.{pairs}
use Rattle.json_text.specs.Value.{Stands}
use Rattle.json_reader.specs.Faults.{IsFirstFault}
use Rattle.json_reader.specs.declared.fault.JsonFault.{JsonFault}
use Rattle.scene_json.specs.Named.{value_at}
use Rattle.json_text.proofs.CallerLemmas.{Stands-once}
use Rattle.json_reader.proofs.CallerLemmas as json
use Rattle.scene_json.proofs.CallerLemmas.{rising_same}
use Rattle.elem.specs.Forms.{IsObject}
use Rattle.elem.proofs.CallerLemmas.{text-once, members-once, array-once, pairs-once}
use Rattle.elem_read.specs.Elements.{IsFirstFaulty, AreRead}
use Rattle.elem_read.specs.declared.fault.ElemFault.{ElemFault}
use Rattle.elem_read.proofs.CallerLemmas.{read-once, faulty-once, faultless}
use Rattle.file_table.proofs.CallerLemmas.{AreLeastEntries-unique}
use Rattle.scene_file.specs.Heads.{Heading, IsJoinedHead, settings_of, files_of}
use Rattle.scene_file.specs.Reading.{value_unless_null, HasItems, HasMembers, IsSource, IsScene, loaded, IsHeadOf, IsSceneOf, IsSceneFault, IsSceneAt, IsSceneFaultAt}
use Rattle.scene_file.specs.declared.scene.Scene.{Scene}
use Rattle.scene_file.specs.declared.fault.SceneFault.{SceneFault}
use Rattle.scene_file.specs.declared.fault.SceneFault.TheVariants.{Json, NotObject, NotScene, Elements, AppState, Files, Element}
use Rattle.scene_file.proofs.Blanks.{Stands-no_blank}

-- ---- parts
source-once : (found a b : Option (List ℕ)) → IsSource found a → IsSource found b → a ≡ b
source-once found None None one two = refl
source-once found None (Some text) one two = absurd (one text two)
source-once found (Some text) None one two = absurd (two text one)
source-once found (Some text) (Some other) one two = ap Some (text-once found text other one two)

pub value_unless_null-once : (found : Option (List ℕ)) (ms ns : List Pair) → HasMembers found ms → HasMembers found ns
    → ms ≡ ns
value_unless_null-once None ms ns one two = one ∙ sym two
value_unless_null-once (Some value) ms ns one two = members-once value ms ns one two

pub items-once : (found : Option (List ℕ)) (vs ws : List (List ℕ)) → HasItems found vs → HasItems found ws → vs ≡ ws
items-once None vs ws one two = one ∙ sym two
items-once (Some value) vs ws one two = array-once vs ws one.0 two.0 (sym one.1 ∙ two.1)

-- ---- heads and scenes
head_of-once : (members : List Pair) (head other : Heading) → IsHeadOf members head → IsHeadOf members other
    → head ≡ other
head_of-once members head other one two =
    let source = source-once (value_at (codes "source") members) head.source other.source one.source two.source in
    let settings = value_unless_null-once (value_unless_null (codes "appState") members) one.settings two.settings
    one.state two.state in
    let entries = value_unless_null-once (value_unless_null (codes "files") members) one.entries two.entries one.table
    two.table in
    let state = pairs-once head.app_state other.app_state
    (rising_same (pairs head.app_state) (pairs other.app_state) one.state_ordered two.state_ordered
    (λ name. one.app_state name ∙ (ap (value_at name) settings ∙ sym (two.app_state name)))) in
    let files = rising_same head.files other.files one.files_ordered two.files_ordered (λ name. one.files name
    ∙ (ap (value_at name) entries ∙ sym (two.files name))) in
    λ i. record { source = source i; app_state = state i; files = files i }

scene_of-once : (text : List ℕ) (scene other : Scene) → IsSceneOf text scene → IsSceneOf text other → scene ≡ other
scene_of-once text scene other one two =
    let members = members-once text two.members one.members two.object one.object in
    let head = head_of-once one.members scene.head other.head one.head
    (subst (λ ms. IsHeadOf ms other.head) members two.head) in
    let values = items-once (value_unless_null (codes "elements") one.members) two.values one.values
    (subst (λ ms. HasItems (value_unless_null (codes "elements") ms) two.values) members two.items) one.items in
    let elements = read-once one.values one.elements two.elements one.read
    (subst (λ vs. AreRead vs two.elements) values two.read) in
    let all = one.are_loaded ∙ (ap loaded elements ∙ sym two.are_loaded) in
    λ i. record { head = head i; elements = all i }

-- At most one scene stands at the front.
pub scene-once : {bytes : List ℕ} {scene other : Scene} {rest next : List ℕ} → IsSceneAt bytes scene rest
    → IsSceneAt bytes other next → (scene ≡ other) × (rest ≡ next)
scene-once {scene = scene} {other = other} one two =
    let same = Stands-once two.stands one.stands in
    (scene_of-once one.text scene other one.says (subst (λ t. IsSceneOf t other) same.0 two.says), sym same.1)

-- No scene stands in white space.
pub scene-some : {bytes : List ℕ} {scene : Scene} {rest : List ℕ} → IsSceneAt bytes scene rest → is_blank bytes ≡ true
    → ⊥
scene-some {bytes = bytes} {rest = rest} is blank = Stands-no_blank bytes is.text rest is.stands blank

-- ---- faults
-- one question on the way to a fault: it is answered by no, and this is the fault, or by yes, and the fault comes later
data Asked (Yes : Type 0) (known : SceneFault) (Later : SceneFault → Type 0) (fault : SceneFault) : Type 0 where
  no : fault ≡ known → (Yes → ⊥) → Asked Yes known Later fault
  yes : Yes → Later fault → Asked Yes known Later fault

asked-once : (Yes : Type 0) (known : SceneFault) (Later : SceneFault → Type 0) (fault other : SceneFault)
    → (Later fault → Later other → fault ≡ other)
    → Asked Yes known Later fault → Asked Yes known Later other → fault ≡ other
asked-once Yes known Later fault other later (no e one) (no f two) = e ∙ sym f
asked-once Yes known Later fault other later (no e one) (yes y two) = absurd (one y)
asked-once Yes known Later fault other later (yes y one) (no e two) = absurd (two y)
asked-once Yes known Later fault other later (yes x one) (yes y two) = later one two

asked-none : (Yes : Type 0) (known : SceneFault) (Later : SceneFault → Type 0) (fault : SceneFault) → Yes
    → (Later fault → ⊥) → Asked Yes known Later fault → ⊥
asked-none Yes known Later fault y later (no e none) = none y
asked-none Yes known Later fault y later (yes x one) = later one

-- the questions in their order
abbrev HasSomeItems : List Pair → Type 0
HasSomeItems members = (values : List (List ℕ)) × HasItems (value_unless_null (codes "elements") members) values

abbrev HasSome : List ℕ → List Pair → Type 0
HasSome name members = (others : List Pair) × HasMembers (value_unless_null name members) others

abbrev IsElementFault : List Pair → SceneFault → Type 0
IsElementFault members fault =
    (place : ℕ) × (why : ElemFault) × (values : List (List ℕ)) × (fault ≡ Element place why)
    × HasItems (value_unless_null (codes "elements") members) values × IsFirstFaulty values place why

abbrev IsIn : List Pair → SceneFault → Type 0
IsIn members =
    Asked (IsScene members) NotScene (Asked (HasSomeItems members) Elements
    (Asked (HasSome (codes "appState") members) AppState
    (Asked (HasSome (codes "files") members) Files (IsElementFault members))))

abbrev IsOf : List ℕ → SceneFault → Type 0
IsOf text = Asked ((members : List Pair) × IsObject text members) NotObject (λ fault. (members : List Pair)
    × IsObject text members × IsIn members fault)

asked : (text : List ℕ) (fault : SceneFault) → IsSceneFault text fault → IsOf text fault
asked text (Json fault) is = absurd is
asked text NotObject is = no refl (λ found. is found.0 found.1)
asked text NotScene (members, object, none) = yes (members, object) (members, object, no refl none)
asked text Elements (members, object, scene, none) =
    yes (members, object) (members, object, yes scene (no refl (λ items. none items.0 items.1)))
asked text AppState (members, object, scene, items, none) =
    yes (members, object) (members, object, yes scene (yes items (no refl (λ state. none state.0 state.1))))
asked text Files (members, object, scene, items, state, none) =
    yes (members, object) (members, object, yes scene (yes items (yes state (no refl (λ files. none files.0 files.1)))))
asked text (Element place why) (members, object, scene, (values, items, faulty), state, files) =
    yes (members, object) (
      members,
      object,
      yes scene (yes (values, items) (yes state (yes files (place, why, values, refl, items, faulty)))),
    )

element_fault-once : (members : List Pair) (fault other : SceneFault) → IsElementFault members fault
    → IsElementFault members other → fault ≡ other
element_fault-once members fault other (place, why, values, is, items, faulty) (
  place',
  why',
  values',
  is',
  items',
  faulty',
) =
    let same = items-once (value_unless_null (codes "elements") members) values' values items' items in
    let both =
    faulty-once values place place' why why' faulty (subst (λ vs. IsFirstFaulty vs place' why') same faulty') in
    is ∙ (ap₂ Element both.0 both.1 ∙ sym is')

in-once : (members : List Pair) (fault other : SceneFault) → IsIn members fault → IsIn members other → fault ≡ other
in-once members fault other =
    asked-once _ _ _ fault other (asked-once _ _ _ fault other
    (asked-once _ _ _ fault other (asked-once _ _ _ fault other (element_fault-once members fault other))))

scene_fault-once : (text : List ℕ) (fault other : SceneFault) → IsSceneFault text fault → IsSceneFault text other
    → fault ≡ other
scene_fault-once text fault other one two =
    asked-once _ _ _ fault other (λ a b. in-once a.0 fault other a.2
    (subst (λ ms. IsIn ms other) (members-once text b.0 a.0 b.1 a.1) b.2))
    (asked text fault one) (asked text other two)

scene_fault-none : (text : List ℕ) (scene : Scene) (fault : SceneFault) → IsSceneOf text scene → IsSceneFault text fault
    → ⊥
scene_fault-none text scene fault is faulty =
    asked-none _ _ _ fault (
      is.members,
      is.object,
    ) (λ a. later (subst (λ ms. IsIn ms fault) (members-once text a.0 is.members a.1 is.object) a.2))
    (asked text fault faulty)
  where
    last : IsElementFault is.members fault → ⊥
    last (place, why, values, e, items, first) =
        let same = items-once (value_unless_null (codes "elements") is.members) values is.values items is.items in
        faultless is.values is.elements place why is.read (subst (λ vs. IsFirstFaulty vs place why) same first)

    later : IsIn is.members fault → ⊥
    later = asked-none _ _ _ fault is.kind
        (asked-none _ _ _ fault (is.values, is.items) (asked-none _ _ _ fault (is.head.settings, is.head.state)
        (asked-none _ _ _ fault (is.head.entries, is.head.table) last)))

-- a fault of the JSON form, or of the value that stands there
data Told (bytes : List ℕ) (at : ℕ) (fault : SceneFault) : Type 0 where
  form : (found : JsonFault) → fault ≡ Json found → IsFirstFault bytes at found → Told bytes at fault
  value : (text rest : List ℕ) → Stands (drop at bytes) text rest → IsSceneFault text fault → Told bytes at fault

told : (bytes : List ℕ) (at : ℕ) (fault : SceneFault) → IsSceneFaultAt bytes at fault → Told bytes at fault
told bytes at (Json found) is = form found refl is
told bytes at NotObject is = value is.0 is.1 is.2 is.3
told bytes at NotScene is = value is.0 is.1 is.2 is.3
told bytes at Elements is = value is.0 is.1 is.2 is.3
told bytes at AppState is = value is.0 is.1 is.2 is.3
told bytes at Files is = value is.0 is.1 is.2 is.3
told bytes at (Element place why) is = value is.0 is.1 is.2 is.3

told-once : (bytes : List ℕ) (at : ℕ) (fault other : SceneFault) → Told bytes at fault → Told bytes at other
    → fault ≡ other
told-once bytes at fault other (form found e one) (form why f two) =
    e ∙ (ap Json (json.fault-once bytes at found why one.first two.first) ∙ sym f)
told-once bytes at fault other (form found e one) (value text rest stands is) = absurd (one.faulty text rest stands)
told-once bytes at fault other (value text rest stands is) (form found e one) = absurd (one.faulty text rest stands)
told-once bytes at fault other (value text rest stands is) (value text' rest' stands' is') =
    scene_fault-once text fault other is (subst (λ t. IsSceneFault t other) (Stands-once stands' stands).0 is')

-- A text has at most one first fault.
pub fault-once : (bytes : List ℕ) (at : ℕ) (fault other : SceneFault) → IsSceneFaultAt bytes at fault
    → IsSceneFaultAt bytes at other → fault ≡ other
fault-once bytes at fault other one two =
    told-once bytes at fault other (told bytes at fault one) (told bytes at other two)

told-none : (bytes : List ℕ) (at : ℕ) (fault : SceneFault) (scene : Scene) (rest : List ℕ) → Told bytes at fault
    → IsSceneAt (drop at bytes) scene rest → ⊥
told-none bytes at fault scene rest (form found e one) is = one.faulty is.text rest is.stands
told-none bytes at fault scene rest (value text next stands faulty) is =
    scene_fault-none text scene fault (subst (λ t. IsSceneOf t scene) (Stands-once is.stands stands).0 is.says) faulty

-- No scene stands where a fault is.
pub fault-none : (bytes : List ℕ) (at : ℕ) (fault : SceneFault) {scene : Scene} {rest : List ℕ}
    → IsSceneFaultAt bytes at fault → IsSceneAt (drop at bytes) scene rest → ⊥
fault-none bytes at fault {scene = scene} {rest = rest} one is =
    told-none bytes at fault scene rest (told bytes at fault one) is

-- ---- joined heads
-- Heads are joined to one head.
pub head-once : {heads : List Heading} {head other : Heading} → IsJoinedHead heads head → IsJoinedHead heads other
    → head ≡ other
head-once {heads = heads} {head = head} {other = other} one two =
    let source = one.source ∙ sym two.source in
    let state = pairs-once head.app_state other.app_state
    (AreLeastEntries-unique (settings_of heads) (pairs head.app_state) (pairs other.app_state) one.app_state
    two.app_state) in
    let files = AreLeastEntries-unique (files_of heads) head.files other.files one.files two.files in
    λ i. record { source = source i; app_state = state i; files = files i }
