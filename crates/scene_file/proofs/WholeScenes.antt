-- Scenes that are read are whole, and so are the heads that theirs are joined to.
use Rattle.std.proofs.Common.{◌≡◌, ℕ, List, [], ◌∷◌, Some, IfSome, All, codes, sym, ◌∙◌, subst, inl, inr, IsUtf8}
use Rattle.std.specs.List.{AllByRecursion, flat_map}
use Rattle.std.proofs.lemmas.List.Elements.{All-nil, All-cons, All-head, All-tail, All-append, All-weaker, All-contains, All-from_recursion}
use Rattle.json_text.specs.Compact.{Member as Pair}
use Rattle.json_text.specs.Members.{pairs}
use Rattle.json_text.specs.Parts.{AreMembers}
use Rattle.json_text.specs.Value.{IsCompact}
use Rattle.scene_json.specs.Named.{value_at, AreSameMembers, HaveRisingNames}
use Rattle.scene_json.proofs.CallerLemmas.{rising_distinct}
use Rattle.elem.specs.ElementValue.{ElementValue}
use Rattle.elem.specs.Forms.{find_in}
use Rattle.elem.proofs.CallerLemmas.{AllByRecursion-weaker}
use Rattle.elem_read.specs.Elements.{AreRead}
use Rattle.elem_read.specs.Reading.{IsWholeElement}
use Rattle.elem_read.proofs.CallerLemmas.{AllFound, found-has, found-self, IsSound, IsSound-read, IsSound-whole}
use Rattle.elem_store.specs.Updates.{AreStored}
use Rattle.file_table.specs.Table.{IsLeast, AreLeastEntries}
use Rattle.file_table.proofs.CallerLemmas.{least-is}
use Rattle.scene_file.specs.Heads.{Heading, least_source, settings_of, files_of, IsJoinedHead}
use Rattle.scene_file.specs.Reading.{loaded, IsHeadOf, IsSceneAt}
use Rattle.scene_file.specs.Whole.{IsWholeHead, HaveKeys, IsWholeScene}
use Rattle.scene_file.specs.declared.scene.Scene.{Scene}
use Rattle.scene_file.proofs.Nesting.{nests-value_unless_null}
use Rattle.scene_file.proofs.Sound.{AreSound, loaded-sound, loaded-keys, stored-all}
use Rattle.scene_file.proofs.Fitting.{lesser-fits, source-fits}

abbrev IsNamed : List ℕ → List ℕ → Type 0
IsNamed name value = IsUtf8 name

abbrev Nests : List ℕ → List ℕ → Type 0
Nests name value = IsCompact 126 value

-- ---- members of rising names
members-from : (ms : List Pair) → HaveRisingNames ms → AllFound IsNamed (find_in ms) → AllFound Nests (find_in ms)
    → AreMembers 126 ms
members-from ms rise named nests =
    let apart = rising_distinct ms rise in
    let there = found-self ms apart in
    record {
      named = AllByRecursion-weaker (λ (m : Pair). value_at m.0 ms ≡ Some m.1) (λ (m : Pair). IsUtf8 m.0) ms
          (λ m e. named m.0 m.1 e) there;
      valued = AllByRecursion-weaker (λ (m : Pair). value_at m.0 ms ≡ Some m.1) (λ (m : Pair). IsCompact 126 m.1) ms
          (λ m e. nests m.0 m.1 e) there;
      distinct = apart;
    }

-- as those with the same members are
members-same : (ms ns : List Pair) → HaveRisingNames ms → AreSameMembers ms ns → AreMembers 126 ns → AreMembers 126 ms
members-same ms ns rise same are =
    members-from ms rise (λ name value e. found-has IsNamed ns are.named name value (sym (same name) ∙ e))
    (λ name value e. found-has Nests ns are.valued name value (sym (same name) ∙ e))

-- ---- heads that are read

head-whole : (members : List Pair) (head : Heading) → AreMembers 127 members → IsHeadOf members head → IsWholeHead head
head-whole members head are is = record {
  source = source-fits (value_at (codes "source") members) head.source is.source;
  settings = members-same (pairs head.app_state) is.settings is.state_ordered is.app_state
      (nests-value_unless_null (codes "appState") members is.settings are is.state);
  settings_ordered = is.state_ordered;
  files = members-same head.files is.entries is.files_ordered is.files
      (nests-value_unless_null (codes "files") members is.entries are is.table);
  files_ordered = is.files_ordered;
}

-- ---- heads that are joined
least-holds : (P : List ℕ → List ℕ → Type 0) (given files : List Pair) → AreLeastEntries given files
    → All (λ (m : Pair). P m.0 m.1) given → AllFound P (find_in files)
least-holds P given files are all name value e =
    let least : IsLeast given name value = (least-is given name value).0 (sym (are.each name) ∙ e) in
    All-contains (λ (m : Pair). P m.0 m.1) given (name, value) all least.among

files-whole : (given files : List Pair) → AreLeastEntries given files → All (λ (m : Pair). IsUtf8 m.0) given
    → All (λ (m : Pair). IsCompact 126 m.1) given → AreMembers 126 files
files-whole given files are named nests =
    members-from files are.ordered (least-holds IsNamed given files are named) (least-holds Nests given files are nests)

part-all : (part : Heading → List Pair) (P : Pair → Type 0) (heads : List Heading)
    → ((head : Heading) → IsWholeHead head → AllByRecursion P (part head)) → All IsWholeHead heads
    → All P (flat_map part heads)
part-all part P [] each whole = All-nil P
part-all part P (head ∷ heads) each whole =
    All-append P (part head) (flat_map part heads)
    (All-from_recursion P (part head) (each head (All-head IsWholeHead head heads whole)))
    (part-all part P heads each (All-tail IsWholeHead head heads whole))

pub least-whole : (heads : List Heading) → All IsWholeHead heads → IfSome (least_source heads) IsUtf8
least-whole [] whole = tt
least-whole (head ∷ heads) whole =
    lesser-fits head.source (least_source heads) (All-head IsWholeHead head heads whole).source
    (least-whole heads (All-tail IsWholeHead head heads whole))

pub joined-whole : (heads : List Heading) (head : Heading) → All IsWholeHead heads → IsJoinedHead heads head
    → IsWholeHead head
joined-whole heads head whole joined = record {
  source = subst (λ source. IfSome source IsUtf8) (sym joined.source) (least-whole heads whole);
  settings = files-whole (settings_of heads) (pairs head.app_state) joined.app_state
      (part-all (λ (h : Heading). pairs h.app_state) (λ (m : Pair). IsUtf8 m.0) heads (λ h is. is.settings.named) whole)
      (part-all (λ (h : Heading). pairs h.app_state) (λ (m : Pair). IsCompact 126 m.1) heads
      (λ h is. is.settings.valued) whole);
  settings_ordered = joined.app_state.ordered;
  files = files-whole (files_of heads) head.files joined.files
      (part-all (λ (h : Heading). h.files) (λ (m : Pair). IsUtf8 m.0) heads (λ h is. is.files.named) whole)
      (part-all (λ (h : Heading). h.files) (λ (m : Pair). IsCompact 126 m.1) heads (λ h is. is.files.valued) whole);
  files_ordered = joined.files.ordered;
}

-- ---- elements
read-sound : (values : List (List ℕ)) (elements : List ElementValue) → AreRead values elements → AreSound elements
read-sound [] elements read = subst AreSound (sym read) (All-nil IsSound)
read-sound (value ∷ values) elements (inl (dropped, read)) = read-sound values elements read
read-sound (value ∷ values) elements (inr (e, others, all, is, read)) =
    subst AreSound (sym all) (All-cons IsSound e others (IsSound-read value e is) (read-sound values others read))

pub sounds-whole : (elements : List ElementValue) → AreSound elements → All IsWholeElement elements
sounds-whole elements sound = All-weaker IsSound IsWholeElement IsSound-whole elements sound

pub wholes-sound : (elements : List ElementValue) → All IsWholeElement elements → AreSound elements
wholes-sound elements whole = All-weaker IsWholeElement IsSound (λ e is. IsSound-read _ e is) elements whole

pub stored-whole : (updates elements : List ElementValue) → All IsWholeElement updates → AreStored updates elements
    → All IsWholeElement elements
stored-whole updates elements whole are = stored-all IsWholeElement updates elements are whole

pub scene-whole : (bytes : List ℕ) (scene : Scene) (rest : List ℕ) → IsSceneAt bytes scene rest → IsWholeScene scene
scene-whole bytes scene rest at =
    let is = at.says in
    record {
      head = head-whole is.members scene.head is.object.are_members is.head;
      elements = subst (All IsWholeElement) (sym is.are_loaded)
          (sounds-whole (loaded is.elements) (loaded-sound is.elements (read-sound is.values is.elements is.read)));
      keys = subst HaveKeys (sym is.are_loaded) (loaded-keys is.elements);
    }
