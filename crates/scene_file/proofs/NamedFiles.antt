-- The files that elements name, in the order of their ids.
use Rattle.std.proofs.Common.{◌≡◌, ℕ, List, [], ◌∷◌, Bool, true, false, cond, Option, Some, None, Contains, filter, bytes_eq, refl, sym, ap, ap₂, ◌∙◌, inl, inr, IsUtf8}
use Rattle.std.specs.List.{AllByRecursion, list_any, cons_option}
use Rattle.std.specs.Option.{option_map}
use Rattle.std.proofs.lemmas.Bool.{cases_Bool, cond-true, cond-false, true_from_ne_false, both_ways}
use Rattle.std.proofs.lemmas.List.Elements.{All-weaker, All-contains_itself, recursion_from_All}
use Rattle.std.proofs.lemmas.Map.Entries.{lookup_head, lookup_tail}
use Rattle.json_text.specs.Compact.{Member as Pair}
use Rattle.json_text.specs.Parts.{AreMembers}
use Rattle.json_text.specs.Value.{IsCompact}
use Rattle.scene_json.specs.Named.{value_at, AreSameMembers, HaveRisingNames}
use Rattle.json_text.proofs.CallerLemmas.{bytes_eq-true, bytes_eq-same, IsDistinct-first_texts, Contains-first_texts}
use Rattle.scene_json.proofs.CallerLemmas.{IsBelow, rising_parts, rising_from, rising_none}
use Rattle.json_text.specs.FirstOccurrences.{first_texts}
use Rattle.elem.specs.ElementValue.{ElementValue}
use Rattle.elem.specs.Forms.{find_in}
use Rattle.elem_read.proofs.CallerLemmas.{AllFound, found-has}
use Rattle.elem_store.proofs.CallerLemmas.{list_any-false}
use Rattle.file_table.specs.References.{references, referred_files}
use Rattle.file_table.proofs.CallerLemmas.{found, none-either, referred-at, IsDistinct-found}

-- ---- members of names that pass
abbrev passed : (List ℕ → Bool) → List Pair → List Pair
passed test files = filter (λ (file : Pair). test file.0) files

passed-at : (test : List ℕ → Bool) (files : List Pair) (name : List ℕ)
    → value_at name (passed test files) ≡ cond (test name) (value_at name files) None
passed-at test [] name = sym (none-either (test name))
passed-at test (file ∷ files) name = go (test file.0) refl (passed-at test files name)
  where
    go : (b : Bool) → test file.0 ≡ b → value_at name (passed test files) ≡ cond (test name) (value_at name files) None
        → value_at name (cond b (file ∷ passed test files) (passed test files))
        ≡ cond (test name) (value_at name (file ∷ files)) None
    go true passes more =
        elim (cases_Bool (bytes_eq name file.0)) [
          | inl same ↦
              let here : test name ≡ true = ap test (bytes_eq-true name file.0 same) ∙ passes in
              lookup_head (bytes_eq name) file (passed test files) same
              ∙ sym (cond-true (test name) (value_at name (file ∷ files)) None here
              ∙ lookup_head (bytes_eq name) file files same)
          | inr other ↦
              lookup_tail (bytes_eq name) file (passed test files) other
              ∙ (more ∙ ap (λ o. cond (test name) o None) (sym (lookup_tail (bytes_eq name) file files other)))
        ]
    go false fails more =
        elim (cases_Bool (bytes_eq name file.0)) [
          | inl same ↦
              let here : test name ≡ false = ap test (bytes_eq-true name file.0 same) ∙ fails in
              more ∙ (cond-false (test name) (value_at name files) None here
              ∙ sym (cond-false (test name) (value_at name (file ∷ files)) None here))
          | inr other ↦ more ∙ ap (λ o. cond (test name) o None) (sym (lookup_tail (bytes_eq name) file files other))
        ]

passed-below : (test : List ℕ → Bool) (name : List ℕ) (files : List Pair) → IsBelow name files
    → IsBelow name (passed test files)
passed-below test name [] below = tt
passed-below test name (file ∷ files) below =
    elim (test file.0) as (λ b. IsBelow name (cond b (file ∷ passed test files) (passed test files))) [
      | true ↦ (below.0, passed-below test name files below.1)
      | false ↦ passed-below test name files below.1
    ]

pub passed-rise : (test : List ℕ → Bool) (files : List Pair) → HaveRisingNames files
    → HaveRisingNames (passed test files)
passed-rise test [] rise = rising_none
passed-rise test (file ∷ files) rise =
    let parts = rising_parts file files rise in
    elim (test file.0) as (λ b. HaveRisingNames (cond b (file ∷ passed test files) (passed test files))) [
      | true ↦ rising_from file (passed test files) (passed-below test file.0 files parts.0)
          (passed-rise test files parts.1)
      | false ↦ passed-rise test files parts.1
    ]

-- ---- members of some names
-- what holds of all that is found holds of the members of some names
found-each : (P : List ℕ → List ℕ → Type 0) (files : List Pair) (ids : List (List ℕ)) → AllFound P (find_in files)
    → AllByRecursion (λ (m : Pair). P m.0 m.1) (found files ids)
found-each P files [] all = tt
found-each P files (id ∷ ids) all = go (value_at id files) refl (found-each P files ids all)
  where
    go : (o : Option (List ℕ)) → value_at id files ≡ o → AllByRecursion (λ (m : Pair). P m.0 m.1) (found files ids)
        → AllByRecursion (λ (m : Pair). P m.0 m.1) (cons_option (option_map (λ entry. (id, entry)) o) (found files ids))
    go None gone more = more
    go (Some entry) some more = (all id entry some, more)

-- tables with the same entries of some names have the same members of them
found-same : (files others : List Pair) (ids : List (List ℕ))
    → AllByRecursion (λ (id : List ℕ). value_at id files ≡ value_at id others) ids → found files ids ≡ found others ids
found-same files others [] same = refl
found-same files others (id ∷ ids) same =
    ap₂ (λ o rest. cons_option (option_map (λ entry. (id, entry)) o) rest) same.0 (found-same files others ids same.1)

-- ---- the names that come in a list
contained-any : (name : List ℕ) (names : List (List ℕ)) → Contains names name → list_any (bytes_eq name) names ≡ true
contained-any name names c =
    true_from_ne_false (list_any (bytes_eq name) names)
    (λ none. both_ways (bytes_eq name name) (list_any-false (bytes_eq name) names name none c) (bytes_eq-same name))

-- ---- the files that elements name
module _ (files : List Pair) (elements : List ElementValue) where
  pub named-same : AreSameMembers (filter (λ (file : Pair). list_any (bytes_eq file.0) (references elements)) files)
      (referred_files files elements)
  named-same name =
      passed-at (λ (id : List ℕ). list_any (bytes_eq id) (references elements)) files name
      ∙ sym (referred-at files elements name)

  pub named-rise : HaveRisingNames files
      → HaveRisingNames (filter (λ (file : Pair). list_any (bytes_eq file.0) (references elements)) files)
  named-rise rise = passed-rise (λ (id : List ℕ). list_any (bytes_eq id) (references elements)) files rise

  pub referred-are : (limit : ℕ) → AreMembers limit files → AreMembers limit (referred_files files elements)
  referred-are limit are =
      let ids = first_texts (references elements) in
      record {
        named =
            found-each (λ name value. IsUtf8 name) files ids (found-has (λ name value. IsUtf8 name) files are.named);
        valued = found-each (λ name value. IsCompact limit value) files ids
            (found-has (λ name value. IsCompact limit value) files are.valued);
        distinct = IsDistinct-found files ids (IsDistinct-first_texts (references elements));
      }

  -- they are those that elements name of them
  pub named-again : referred_files (filter (λ (file : Pair). list_any (bytes_eq file.0) (references elements)) files)
      elements ≡ referred_files files elements
  named-again =
      let ids = first_texts (references elements) in
      let test = λ (id : List ℕ). list_any (bytes_eq id) (references elements) in
      found-same (passed test files) files ids
      (recursion_from_All (λ (id : List ℕ). value_at id (passed test files) ≡ value_at id files) ids
      (All-weaker (Contains ids) (λ (id : List ℕ). value_at id (passed test files) ≡ value_at id files)
      (λ id c. passed-at test files id ∙ cond-true (test id) (value_at id files) None
      (contained-any id (references elements) ((Contains-first_texts (references elements) id).0 c)))
      ids (All-contains_itself ids)))
