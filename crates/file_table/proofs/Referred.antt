-- The files that elements name.
use Rattle.std.proofs.Common.{◌≡◌, inl, inr, ◌||◌, Bool, ℕ, true, false, cond, List, [], ◌∷◌, ◌++◌, Option, Some, None, IfSome, is_some, filter, bytes_eq, refl, sym, ap, ◌∙◌, subst}
use Rattle.std.specs.List.{IsDistinct, filter_map, cons_option, list_any}
use Rattle.std.specs.Option.{option_map}
use Rattle.std.proofs.lemmas.Bool.{cases_Bool}
use Rattle.std.proofs.lemmas.List.{append-nil}
use Rattle.std.proofs.lemmas.Map.Entries.{lookup_head, lookup_tail}
use Rattle.json_text.proofs.CallerLemmas.{bytes_eq-true, IsDistinct-filter, any-first_texts}
use Rattle.std.proofs.lemmas.List.Elements.{filter_map-append}
use Rattle.json_text.specs.Compact.{Member as Pair}
use Rattle.json_text.specs.Parts.{names_of}
use Rattle.json_text.specs.Value.{IsCompact}
use Rattle.scene_json.specs.Named.{value_at}
use Rattle.json_text.specs.FirstOccurrences.{first_texts}
use Rattle.elem.specs.ElementValue.{ElementValue}
use Rattle.file_table.specs.References.{references, file_of, referred_files}
use Rattle.elem.specs.Texts.{sorted_members}
use Rattle.file_table.specs.Table.{EntriesNest}
use Rattle.file_table.proofs.ById.{value-by_id}

-- ---- one element more
pub references-some : (elements : List ElementValue) (e : ElementValue) (id : List ℕ) → e.file ≡ Some id
    → references (elements ++ e ∷ []) ≡ references elements ++ id ∷ []
references-some elements e id h =
    filter_map-append (λ (d : ElementValue). d.file) elements (e ∷ [])
    ∙ ap (λ o. references elements ++ cons_option o []) h

pub references-none : (elements : List ElementValue) (e : ElementValue) → e.file ≡ None
    → references (elements ++ e ∷ []) ≡ references elements
references-none elements e h =
    filter_map-append (λ (d : ElementValue). d.file) elements (e ∷ [])
    ∙ ap (λ o. references elements ++ cons_option o []) h ∙ append-nil (references elements)

-- ---- one id more
abbrev pub found : List Pair → List (List ℕ) → List Pair
found files ids = filter_map (file_of files) ids

pub found-some : (files : List Pair) (ids : List (List ℕ)) (id entry : List ℕ) → value_at id files ≡ Some entry
    → found files (ids ++ id ∷ []) ≡ found files ids ++ (id, entry) ∷ []
found-some files ids id entry h =
    filter_map-append (file_of files) ids (id ∷ [])
    ∙ ap (λ o. found files ids ++ cons_option (option_map (λ e. (id, e)) o) []) h

pub found-none : (files : List Pair) (ids : List (List ℕ)) (id : List ℕ) → value_at id files ≡ None
    → found files (ids ++ id ∷ []) ≡ found files ids
found-none files ids id h =
    filter_map-append (file_of files) ids (id ∷ [])
    ∙ ap (λ o. found files ids ++ cons_option (option_map (λ e. (id, e)) o) []) h ∙ append-nil (found files ids)

-- ---- in whatever order the entries stand
pub found-by_id : (files : List Pair) (ids : List (List ℕ)) → found files ids ≡ found (sorted_members files) ids
found-by_id files [] = refl
found-by_id files (id ∷ ids) =
    ap (λ o. cons_option (option_map (λ e. (id, e)) o) (found files ids)) (sym (value-by_id id files))
    ∙ ap (cons_option (file_of (sorted_members files) id)) (found-by_id files ids)

-- ---- their ids are distinct, and their entries nest as those of the table
names-found : (files : List Pair) (ids : List (List ℕ))
    → names_of (found files ids) ≡ filter (λ id. is_some (value_at id files)) ids
names-found files [] = refl
names-found files (id ∷ ids) =
    elim (value_at id files) as (λ o. names_of (cons_option (option_map (λ e. (id, e)) o) (found files ids))
    ≡ cond (is_some o) (id ∷ filter (λ i. is_some (value_at i files)) ids)
    (filter (λ i. is_some (value_at i files)) ids)) [
      | None ↦ names-found files ids
      | Some e ↦ ap (λ x. id ∷ x) (names-found files ids)
    ]

pub IsDistinct-found : (files : List Pair) (ids : List (List ℕ)) → IsDistinct bytes_eq ids
    → IsDistinct bytes_eq (names_of (found files ids))
IsDistinct-found files ids h =
    subst (IsDistinct bytes_eq) (sym (names-found files ids))
    (IsDistinct-filter (λ id. is_some (value_at id files)) ids h)

entry_nests : (limit : ℕ) (files : List Pair) (id : List ℕ) → EntriesNest limit files
    → IfSome (value_at id files) (IsCompact limit)
entry_nests limit [] id nest = tt
entry_nests limit (file ∷ files) id nest =
    elim (bytes_eq id file.0) as (λ b. IfSome (cond b (Some file.1) (value_at id files)) (IsCompact limit)) [
      | true ↦ nest.0
      | false ↦ entry_nests limit files id nest.1
    ]

pub EntriesNest-found : (limit : ℕ) (files : List Pair) (ids : List (List ℕ)) → EntriesNest limit files
    → EntriesNest limit (found files ids)
EntriesNest-found limit files [] nest = tt
EntriesNest-found limit files (id ∷ ids) nest =
    go (value_at id files) (entry_nests limit files id nest) (EntriesNest-found limit files ids nest)
  where
    go : (o : Option (List ℕ)) → IfSome o (IsCompact limit) → EntriesNest limit (found files ids)
        → EntriesNest limit (cons_option (option_map (λ e. (id, e)) o) (found files ids))
    go None h rest = rest
    go (Some entry) h rest = (h, rest)

-- ---- what is found under an id
abbrev missing : Option (List ℕ)
missing = None

pub none-either : (b : Bool) → cond b missing missing ≡ missing
none-either true = refl
none-either false = refl

found-at : (files : List Pair) (ids : List (List ℕ)) (name : List ℕ)
    → value_at name (found files ids) ≡ cond (list_any (bytes_eq name) ids) (value_at name files) None
found-at files [] name = refl
found-at files (id ∷ ids) name = go (value_at id files) refl (found-at files ids name)
  where
    more-at : value_at name files ≡ None → value_at name (found files ids)
        ≡ cond (list_any (bytes_eq name) ids) (value_at name files) None → value_at name (found files ids) ≡ None
    more-at none more =
        more ∙ (ap (λ (o : Option (List ℕ)). cond (list_any (bytes_eq name) ids) o None) none
        ∙ none-either (list_any (bytes_eq name) ids))

    go : (o : Option (List ℕ)) → value_at id files ≡ o → value_at name (found files ids)
        ≡ cond (list_any (bytes_eq name) ids) (value_at name files) None
        → value_at name (cons_option (option_map (λ entry. (id, entry)) o) (found files ids))
        ≡ cond (bytes_eq name id || list_any (bytes_eq name) ids) (value_at name files) None
    go None none more =
        elim (cases_Bool (bytes_eq name id)) [
          | inl same ↦
              let gone : value_at name files ≡ None = ap (λ n. value_at n files) (bytes_eq-true name id same) ∙ none in
              more-at gone more
              ∙ sym (ap (λ b. cond (b || list_any (bytes_eq name) ids) (value_at name files) None) same ∙ gone)
          | inr other ↦ more ∙ ap (λ b. cond (b || list_any (bytes_eq name) ids) (value_at name files) None) (sym other)
        ]
    go (Some entry) some more =
        elim (cases_Bool (bytes_eq name id)) [
          | inl same ↦
              lookup_head (bytes_eq name) (id, entry) (found files ids) same
              ∙ sym (ap (λ b. cond (b || list_any (bytes_eq name) ids) (value_at name files) None) same
              ∙ (ap (λ n. value_at n files) (bytes_eq-true name id same) ∙ some))
          | inr other ↦
              lookup_tail (bytes_eq name) (id, entry) (found files ids) other
              ∙ (more ∙ ap (λ b. cond (b || list_any (bytes_eq name) ids) (value_at name files) None) (sym other))
        ]

pub referred-at : (files : List Pair) (elements : List ElementValue) (id : List ℕ)
    → value_at id (referred_files files elements) ≡ cond (list_any (bytes_eq id) (references elements))
    (value_at id files) None
referred-at files elements id =
    found-at files (first_texts (references elements)) id
    ∙ ap (λ b. cond b (value_at id files) None) (any-first_texts (references elements) id)

pub referred-ids : (files : List Pair) (elements : List ElementValue)
    → names_of (referred_files files elements)
    ≡ filter (λ id. is_some (value_at id files)) (first_texts (references elements))
referred-ids files elements = names-found files (first_texts (references elements))
