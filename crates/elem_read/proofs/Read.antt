-- Each compact value is no element, an element, or has a first fault.
use Rattle.std.proofs.Common.{◌≡◌, ◌≢◌, ◌⊎◌, inl, inr, ℕ, List, ◌∷◌, ◌++◌, Bool, false, Option, Some, None, bytes_eq, codes, if◌then◌else◌, refl, sym, ap, subst, ◌∙◌, lit≤}
use Rattle.std.specs.List.{list_any}
use Rattle.std.proofs.lemmas.Bool.{cases_Bool, or_parts, both_ways}
use Rattle.std.proofs.lemmas.List.Folds.{list_any-append}
use Rattle.json_text.specs.Characters.{quote}
use Rattle.json_text.specs.Compact.{Member as Pair, object_text}
use Rattle.json_text.specs.Parts.{AreMembers, names_of}
use Rattle.json_text.specs.Value.{IsCompact}
use Rattle.scene_json.specs.Named.{value_at}
use Rattle.scene_json.specs.TheOne.{IsTheOne}
use Rattle.json_text.proofs.CallerLemmas.{bytes_eq-true, bytes_eq-same, bytes_eq-apart, Value-deeper, object-or-not, nests-or-not}
use Rattle.json_text.specs.declared.text.Member.{Member}
use Rattle.scene_json.proofs.CallerLemmas.{tabled}
use Rattle.restore_table.specs.Restored.{AreRestored, HasOldListing, filled, filled_at, listing_at, listing_name, old_name}
use Rattle.restore_table.specs.Table.{defaults}
use Rattle.elem.specs.ElementValue.{ElementValue}
use Rattle.elem.specs.Facts.{is_header}
use Rattle.elem.specs.Forms.{Find, find_in, IsText, IsId, IsKindName, IsWholeNumber, IsTruth, IsTextOrNull, IsKeyOrNull, AreTexts, IsObject, IsListing, AreOthers, IsBindingOrNull}
use Rattle.elem.specs.Said.{is_named, IsOwn, Says}
use Rattle.elem.proofs.CallerLemmas.{texts-once}
use Rattle.elem_read.specs.Faults.{Lacks, Fails, place_of, Passes, IsFirst}
use Rattle.elem_read.specs.Reading.{IsSelection, IsNoSelection, IsElementIn, IsFaultIn, selection_text}
use Rattle.elem_read.specs.declared.fault.ElemFault.{ElemFault}
use Rattle.elem_read.specs.declared.fault.ElemFault.TheVariants.{NotObject, Depth, Id, Kind, Version, Nonce, Updated, Index, Deleted, Groups, Frame, Bound, Container, Binding, File}
use Rattle.elem_read.proofs.NoSelections.{no-object, kind-stays, fault-in}
use Rattle.elem_read.proofs.Firsts.{passes-members, own-fails, after-id, after-kind, after-version, after-nonce, after-updated, after-index, after-deleted, after-groups, after-frame, after-bound, after-container, after-bindings}
use Rattle.elem_read.proofs.Decided.{Decided, Fits, fits-from, fits-in, text-or-not, id-or-not, text_or_null-or-not, key_or_null-or-not, texts-or-not, kind-of, whole-or-not, truth-or-not, listing-or-not, not-named, others-exist, binding-or-not, own-or-not}
use Rattle.elem_read.proofs.Keeping.{object-nests}
use Rattle.elem_read.proofs.Whole.{restored-nest}

-- ---- restored members
old-ids : (ms : List Pair) → AreMembers 127 ms → (ids : Option (List (List ℕ))) × IsTheOne (HasOldListing ms) ids
old-ids ms are = elim (texts-or-not (value_at old_name ms) (fits-in 127 ms (lit≤ tt) are old_name)) [
  | inl (ids, is) ↦ (
    Some ids,
    (
      record { texts = is.0; named = is.1 },
      λ other one. texts-once (value_at old_name ms) other ids (one.texts, one.named) is,
    ),
  )
  | inr none ↦ (None, λ ids one. none ids (one.texts, one.named))
]

-- what the restored members have at a name
restored_at : Option (List (List ℕ)) → List Pair → List ℕ → Option (List ℕ)
restored_at ids ms name = if bytes_eq name old_name then None
    else (if bytes_eq name listing_name then listing_at ids ms else filled_at name ms)

at-old : (ids : Option (List (List ℕ))) (ms : List Pair) → restored_at ids ms old_name ≡ None
unfolding restored_at
at-old ids ms = refl

at-listing : (ids : Option (List (List ℕ))) (ms : List Pair) → restored_at ids ms listing_name ≡ listing_at ids ms
unfolding restored_at
at-listing ids ms = refl

at-other : (ids : Option (List (List ℕ))) (ms : List Pair) (name : List ℕ) → bytes_eq name old_name ≡ false
    → bytes_eq name listing_name ≡ false → restored_at ids ms name ≡ filled_at name ms
unfolding restored_at
at-other ids ms name not_old not_listing = rw (not_old, not_listing) refl

at-none : (ids : Option (List (List ℕ))) (ms : List Pair) (name : List ℕ)
    → list_any (bytes_eq name) (listing_name ∷ (names_of defaults ++ names_of ms)) ≡ false
    → restored_at ids ms name ≡ None
at-none ids ms name none = elim (cases_Bool (bytes_eq name old_name)) [
  | inl old ↦ ap (restored_at ids ms) (bytes_eq-true name old_name old) ∙ at-old ids ms
  | inr not_old ↦
      let first =
      or_parts (bytes_eq name listing_name) (list_any (bytes_eq name) (names_of defaults ++ names_of ms)) none in
      let rest = or_parts (list_any (bytes_eq name) (names_of defaults)) (list_any (bytes_eq name) (names_of ms))
      (sym (list_any-append (bytes_eq name) (names_of defaults) (names_of ms)) ∙ first.1) in
      at-other ids ms name not_old first.0 ∙ (ap (λ d. filled d (value_at name ms)) (not-named name defaults rest.0)
      ∙ not-named name ms rest.1)
]

pub restored-exist : (ms : List Pair) → AreMembers 127 ms → (rs : List Pair) × AreRestored ms rs
restored-exist ms are =
    let (ids, old) = old-ids ms are in
    let (rs, rise, at) =
    tabled (listing_name ∷ (names_of defaults ++ names_of ms)) (restored_at ids ms) (at-none ids ms) in (
      rs,
      record {
        rise = rise;
        ids = ids;
        old = old;
        gone = at old_name ∙ at-old ids ms;
        listing = at listing_name ∙ at-listing ids ms;
        others = λ name not_old not_listing. at name
            ∙ at-other ids ms name (bytes_eq-apart name old_name not_old)
            (bytes_eq-apart name listing_name not_listing);
      },
    )

-- ---- the element that members say, or their first fault
module _ (find : Find) where
  abbrev Told : Type 0
  Told = ((e : ElementValue) × Says find e) ⊎ ((fault : ElemFault) × IsFirst find fault)

  -- a part that is read, or is the first fault
  part : {A : Type 0} (P : A → Type 0) (fault : ElemFault) → Passes (place_of fault) find → (Lacks P → Fails fault find)
      → Decided P → ((x : A) → P x → Told) → Told
  part P fault before fails (inl (x, is)) more = more x is
  part P fault before fails (inr none) more = inr (fault, record { comes = fails none; first = before })

  told : ((name : List ℕ) → Fits (find name)) → find (codes "type") ≢ Some selection_text
      → ((test : List ℕ → Bool) → (others : List Member) × AreOthers test find others) → Told
  told fits other rest =
      part (IsId (find (codes "id"))) Id (passes-members find) (λ h. h)
      (id-or-not (find (codes "id")) (fits (codes "id"))) (λ id is_id.
      let third = after-id find id is_id in
      part (IsText (find (codes "type"))) Kind third (λ h. h) (text-or-not (find (codes "type")) (fits (codes "type")))
      (λ name is_name.
      let (kind, named, known) = kind-of name (λ e. other (is_name.1 ∙ ap (λ t. Some (quote t)) e)) in
      let is_kind : IsKindName (find (codes "type")) kind =
      (subst (IsText (find (codes "type"))) (sym named) is_name, known) in
      let fourth = after-kind find kind is_kind third in
      part (IsWholeNumber (find (codes "version"))) Version fourth (λ h. h) (whole-or-not (find (codes "version")))
      (λ version is_version.
      let fifth = after-version find version is_version fourth in
      part (IsWholeNumber (find (codes "versionNonce"))) Nonce fifth (λ h. h)
      (whole-or-not (find (codes "versionNonce"))) (λ nonce is_nonce.
      let sixth = after-nonce find nonce is_nonce fifth in
      part (IsWholeNumber (find (codes "updated"))) Updated sixth (λ h. h) (whole-or-not (find (codes "updated")))
      (λ updated is_updated.
      let seventh = after-updated find updated is_updated sixth in
      part (IsKeyOrNull (find (codes "index"))) Index seventh (λ h. h)
      (key_or_null-or-not (find (codes "index")) (fits (codes "index"))) (λ index is_index.
      let eighth = after-index find index is_index seventh in
      part (IsTruth (find (codes "isDeleted"))) Deleted eighth (λ h. h) (truth-or-not (find (codes "isDeleted")))
      (λ deleted is_deleted.
      let ninth = after-deleted find deleted is_deleted eighth in
      part (AreTexts (find (codes "groupIds"))) Groups ninth (λ h. h)
      (texts-or-not (find (codes "groupIds")) (fits (codes "groupIds"))) (λ groups are_groups.
      let tenth = after-groups find groups are_groups ninth in
      part (IsTextOrNull (find (codes "frameId"))) Frame tenth (λ h. h)
      (text_or_null-or-not (find (codes "frameId")) (fits (codes "frameId"))) (λ frame is_frame.
      let eleventh = after-frame find frame is_frame tenth in
      part (IsListing (find (codes "boundElements"))) Bound eleventh (λ h. h)
      (listing-or-not (find (codes "boundElements")) (fits (codes "boundElements"))) (λ bound is_bound.
      let twelfth = after-bound find bound is_bound eleventh in
      part (IsOwn (is_named (codes "text") kind) IsTextOrNull (find (codes "containerId"))) Container twelfth
      (own-fails find (codes "text") (codes "containerId") IsTextOrNull kind is_kind)
      (own-or-not (is_named (codes "text") kind) IsTextOrNull (find (codes "containerId"))
      (text_or_null-or-not (find (codes "containerId")) (fits (codes "containerId")))) (λ container is_container.
      let thirteenth = after-container find kind container is_kind is_container twelfth in
      part (IsOwn (is_named (codes "arrow") kind) IsBindingOrNull (find (codes "startBinding"))) Binding thirteenth
      (λ lacks. inl (own-fails find (codes "arrow") (codes "startBinding") IsBindingOrNull kind is_kind lacks))
      (own-or-not (is_named (codes "arrow") kind) IsBindingOrNull (find (codes "startBinding"))
      (binding-or-not (find (codes "startBinding")) (fits (codes "startBinding")))) (λ start is_start.
      part (IsOwn (is_named (codes "arrow") kind) IsBindingOrNull (find (codes "endBinding"))) Binding thirteenth
      (λ lacks. inr (own-fails find (codes "arrow") (codes "endBinding") IsBindingOrNull kind is_kind lacks))
      (own-or-not (is_named (codes "arrow") kind) IsBindingOrNull (find (codes "endBinding"))
      (binding-or-not (find (codes "endBinding")) (fits (codes "endBinding")))) (λ end is_end.
      let fourteenth = after-bindings find kind start end is_kind is_start is_end thirteenth in
      part (IsOwn (is_named (codes "image") kind) IsTextOrNull (find (codes "fileId"))) File fourteenth
      (own-fails find (codes "image") (codes "fileId") IsTextOrNull kind is_kind)
      (own-or-not (is_named (codes "image") kind) IsTextOrNull (find (codes "fileId"))
      (text_or_null-or-not (find (codes "fileId")) (fits (codes "fileId")))) (λ file is_file.
      let others = rest (is_header kind) in
      inl (
        record {
          id = id;
          kind = kind;
          version = version;
          nonce = nonce;
          updated = updated;
          deleted = deleted;
          index = index;
          groups = groups;
          frame = frame;
          bound = bound;
          container = container;
          start_binding = start;
          end_binding = end;
          file = file;
          rest = others.0;
        },
        record {
          id = is_id;
          kind = is_kind;
          version = is_version;
          nonce = is_nonce;
          updated = is_updated;
          index = is_index;
          deleted = is_deleted;
          groups = are_groups;
          frame = is_frame;
          bound = is_bound;
          container = is_container;
          start_binding = is_start;
          end_binding = is_end;
          file = is_file;
          rest = others.1;
        },
      )))))))))))))))

-- ---- the value
same-or-not : (found : Option (List ℕ)) (text : List ℕ) → (found ≡ Some text) ⊎ (found ≢ Some text)
same-or-not None text = inr (λ e. cc)
same-or-not (Some v) text = elim (cases_Bool (bytes_eq v text)) [
  | inl e ↦ inl (ap Some (bytes_eq-true v text e))
  | inr e ↦ inr (λ same. let is : v ≡ text = cc in both_ways (bytes_eq v text) e (ap (λ x. bytes_eq x text) is
      ∙ bytes_eq-same text))
]

-- What a compact value is read as.
abbrev pub IsRead : List ℕ → Type 0
IsRead value =
    IsSelection value ⊎ (((e : ElementValue) × IsElementIn value e) ⊎ ((fault : ElemFault) × IsFaultIn value fault))

shallow-read : (value : List ℕ) (ms : List Pair) → IsNoSelection value ms → IsCompact 120 value → IsRead value
shallow-read value ms no_selection shallow =
    let inner : AreMembers 119 ms = object-nests 120 value ms (lit≤ tt) (lit≤ tt) shallow no_selection.object in
    let (rs, restores) = restored-exist ms no_selection.object.are_members in
    let fits : (name : List ℕ) → Fits (find_in rs name) =
    λ name. fits-found (find_in rs name) (λ v e. restored-nest ms rs inner restores name v e) in
    elim (told (find_in rs) fits (kind-stays ms rs restores no_selection.kind) (λ test. others-exist test rs)) [
      | inl (e, says) ↦ inr (inl (
        e,
        record {
          members = ms;
          restored = rs;
          no_selection = no_selection;
          shallow =
              shallow;
          restores = restores;
          says = says;
        },
      ))
      | inr (fault, first) ↦ inr (inr (fault, fault-in value ms rs fault no_selection shallow restores first))
    ]
  where
    fits-found : (found : Option (List ℕ)) → ((v : List ℕ) → found ≡ Some v → IsCompact 119 v) → Fits found
    fits-found found is = fits-from found (λ v e. Value-deeper (lit≤ tt) (is v e))

pub read-exists : (value : List ℕ) → IsCompact 128 value → IsRead value
read-exists value is = by (object-or-not value is)
  where
    by : ((ms : List Pair) × AreMembers 127 ms × (value ≡ object_text ms)) ⊎ ((ms : List Pair) → value ≢ object_text ms)
        → IsRead value
    by (inr none) = inr (inr (NotObject, no-object value none))
    by (inl (ms, are, e)) =
        let object : IsObject value ms = record { are_members = are; spelled = e } in
        elim (same-or-not (value_at (codes "type") ms) selection_text) [
          | inl kind ↦ inl (record { members = ms; object = object; kind = kind })
          | inr other ↦
              let no_selection : IsNoSelection value ms = record { object = object; kind = other } in
              elim (nests-or-not value 120 is) [
                | inl shallow ↦ shallow-read value ms no_selection shallow
                | inr deep ↦ inr (inr (Depth, record { members = ms; no_selection = no_selection; deep = deep }))
              ]
        ]
