-- A scene's members but for the array of its elements.
use Rattle.std.proofs.Common.{◌≡◌, ◌≢◌, ℕ, List, [], ◌∷◌, ◌++◌, Option, Some, None, Ok, All, false, cond, codes, bytes_eq, refl, sym, ap, subst, ◌∙◌, IsUtf8}
use Rattle.std.specs.List.{AllByRecursion}
use Rattle.std.proofs.lemmas.List.Elements.{All-contains}
use Rattle.std.proofs.lemmas.List.Sorted.{IsPermutation-middle}
use Rattle.std.proofs.lemmas.Map.Entries.{lookup_tail}
use Rattle.std.proofs.lemmas.Map.Keys.{IsDistinct-tail}
use Rattle.std.proofs.lemmas.Map.Views.{Contains-from_lookup}
use Rattle.json_text.specs.Compact.{Member as Pair, array_text}
use Rattle.json_text.specs.Parts.{AreMembers, names_of}
use Rattle.json_text.specs.Tree.{null_word}
use Rattle.json_text.specs.Value.{IsCompact}
use Rattle.json_text.proofs.CallerLemmas.{bytes_eq-true}
use Rattle.scene_json.specs.Named.{value_at, AreSameMembers}
use Rattle.scene_json.proofs.CallerLemmas.{distinct_moved, same_moved}
use Rattle.scene_file.specs.Heads.{Heading}
use Rattle.scene_file.specs.Reading.{value_unless_null, HasItems, HasMembers, IsSource, IsHeadOf}
use Rattle.scene_file.specs.inner.Taken.{AreItemsRead}
use Rattle.scene_file.specs.declared.reading.Elements.TheVariants.{Read, NoArray}
use Rattle.scene_file.proofs.Nesting.{value_unless_null-found}

abbrev pub elements : List ℕ
elements = codes "elements"

without : (P : Pair → Type 0) (before : List Pair) (m : Pair) (behind : List Pair)
    → AllByRecursion P (before ++ m ∷ behind) → AllByRecursion P (before ++ behind)
without P [] m behind all = all.1
without P (n ∷ before) m behind all = (all.0, without P before m behind all.1)

module _ (value : List ℕ) (before behind : List Pair) (are : AreMembers 127 (before ++ (elements, value) ∷ behind))
  where
    pub others-are : AreMembers 127 (before ++ behind)
    others-are = record {
      named = without (λ (m : Pair). IsUtf8 m.0) before (elements, value) behind are.named;
      valued = without (λ (m : Pair). IsCompact 127 m.1) before (elements, value) behind are.valued;
      distinct = IsDistinct-tail bytes_eq elements (names_of (before ++ behind))
          (distinct_moved (before ++ (elements, value) ∷ behind) ((elements, value) ∷ (before ++ behind))
          (IsPermutation-middle before (elements, value) behind) are.distinct);
    }

    moved : AreSameMembers (before ++ (elements, value) ∷ behind) ((elements, value) ∷ (before ++ behind))
    moved = same_moved (before ++ (elements, value) ∷ behind) ((elements, value) ∷ (before ++ behind)) are.distinct
        (IsPermutation-middle before (elements, value) behind)

    pub elements-there : value_at elements (before ++ (elements, value) ∷ behind) ≡ Some value
    elements-there = moved elements

    pub others-there : (name : List ℕ) → bytes_eq name elements ≡ false
        → value_at name (before ++ behind) ≡ value_at name (before ++ (elements, value) ∷ behind)
    others-there name other = sym (moved name ∙ lookup_tail (bytes_eq name) (elements, value) (before ++ behind) other)

pub given-same : (name : List ℕ) (members others : List Pair) → value_at name members ≡ value_at name others
    → value_unless_null name members ≡ value_unless_null name others
given-same name members others same =
    ap (λ (found : Option (List ℕ)). elim found [ None ↦ None | Some v ↦ cond (bytes_eq v null_word) None (Some v) ])
    same

-- an array is no null
pub array-given : (items : List (List ℕ)) (members : List Pair) → value_at elements members ≡ Some (array_text items)
    → value_unless_null elements members ≡ Some (array_text items)
unfolding array_text
array-given items members same =
    ap (λ (found : Option (List ℕ)). elim found [ None ↦ None | Some v ↦ cond (bytes_eq v null_word) None (Some v) ])
    same

-- Where no member is an array of elements, none is given.
pub none-given : (members : List Pair) (value : List ℕ)
    → All (λ (m : Pair). (items : List (List ℕ)) → m ≢ (elements, array_text items)) members
    → value_unless_null elements members ≡ Some value
    → AreItemsRead (value_unless_null elements members) NoArray
none-given members value none is values has =
    let array = subst (λ found. HasItems found values) is has in
    All-contains (λ (m : Pair). (items : List (List ℕ)) → m ≢ (elements, array_text items)) members (
      elements,
      value,
    ) none
    (Contains-from_lookup bytes_eq-true elements value members (value_unless_null-found elements members value is))
    values (ap (λ v. (elements, v)) array.1)

pub missing-read : (found : Option (List ℕ)) → found ≡ None → AreItemsRead found (Read (Ok []))
missing-read found none = subst (λ found. AreItemsRead found (Read (Ok []))) (sym none) ([], refl, refl)

-- the head is said by the other members
pub head-same : (members others : List Pair) (head : Heading)
    → ((name : List ℕ) → bytes_eq name elements ≡ false → value_at name members ≡ value_at name others)
    → IsHeadOf members head → IsHeadOf others head
head-same members others head same h = record {
  source = subst (λ found. IsSource found head.source) (same (codes "source") refl) h.source;
  settings = h.settings;
  state = subst (λ found. HasMembers found h.settings)
      (given-same (codes "appState") members others (same (codes "appState") refl)) h.state;
  state_ordered = h.state_ordered;
  app_state = h.app_state;
  entries = h.entries;
  table = subst (λ found. HasMembers found h.entries)
      (given-same (codes "files") members others (same (codes "files") refl)) h.table;
  files_ordered = h.files_ordered;
  files = h.files;
}
