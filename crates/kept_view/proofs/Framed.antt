-- Far from what changed an element keeps its frame name as before: what it names is of one kind as before.
use Rattle.std.proofs.Common.{◌≡◌, ℕ, Bool, true, false, not, cond, ◌&&◌, List, map, Option, Some, None, All, Contains, bytes_eq, refl, sym, ap, ◌∙◌, subst, inl, inr}
use Rattle.std.specs.List.{list_any}
use Rattle.std.specs.Option.{option_map, option_map_or, option_or}
use Rattle.std.proofs.lemmas.Bool.{cases_Bool, both_ways, and_from, and_parts, false_from_ne_true}
use Rattle.std.proofs.lemmas.List.Elements.{All-contains}
use Rattle.std.proofs.lemmas.List.Sorted.{IsPermutation-sym, list_any-IsPermutation}
use Rattle.std.proofs.lemmas.Option.{same_Some}
use Rattle.std.proofs.lemmas.Slice.Eq.{bytes_eq-Decides}
use Rattle.frac_keys.specs.Rising.{are_rising}
use Rattle.elem.specs.ElementValue.{ElementValue}
use Rattle.elem.specs.Order.{has_id}
use Rattle.elem_store.specs.Updates.{element_of, ids_of, is_among}
use Rattle.elem_store.proofs.CallerLemmas.{same_id, find-Some, member}
use Rattle.frames_groups.specs.Frames.{is_frame_kind, is_frame, is_frame_of, has_frame, keeps_frame}
use Rattle.links.specs.Looks.{kind_at}
use Rattle.links.specs.Steps.{names_id}
use Rattle.links.proofs.CallerLemmas.{list_any-found, list_any-from, list_any-map}
use Rattle.view.specs.Shown.{in_scene_order, without_index}
use Rattle.view.specs.Steps.{is_framed}
use Rattle.view.proofs.CallerLemmas.{IsPermutation-in_scene_order}
use Rattle.kept_view.specs.inner.Reached.{HasNamers, StaysKind}
use Rattle.kept_view.specs.inner.Replacing.{element_after}
use Rattle.kept_view.proofs.Stepping.{framed-named}

-- what elements of no id of these name is of one kind after a change and before it, and what they name as their frame
-- is a frame as before
abbrev pub AreKindsKept : List ElementValue → List ElementValue → List (List ℕ) → Type 0
AreKindsKept live after ids = (e : ElementValue) (named : List ℕ) → Contains live e → names_id named e ≡ true
    → is_among ids e.id ≡ false → kind_at live named ≡ kind_at after named

abbrev AreFramesKept : List ElementValue → List ElementValue → List (List ℕ) → Type 0
AreFramesKept live after ids = (e : ElementValue) (frame : List ℕ) → Contains live e → e.frame ≡ Some frame
    → is_among ids e.id ≡ false → has_frame live frame ≡ has_frame after frame

-- whether there is an element, and it is a frame
abbrev is_frame_there : Option ElementValue → Bool
is_frame_there o = option_map_or is_frame o false

-- ---- a list in the order of ids has a frame of an id exactly if its element of this id is one
module _ (es : List ElementValue) (rising : are_rising (ids_of es) ≡ true) (id : List ℕ) where
  frame-there : has_frame es id ≡ true → is_frame_there (element_of es id) ≡ true
  frame-there has =
      let found = list_any-found (is_frame_of id) es has in
      let parts = and_parts (is_frame found.0) (bytes_eq id found.0.id) found.2 in
      ap is_frame_there (ap (element_of es) ((bytes_eq-Decides id found.0.id).0 parts.1)
      ∙ member None None es found.0 rising found.1) ∙ parts.0

  there-frame : (o : Option ElementValue) → element_of es id ≡ o → is_frame_there o ≡ true → has_frame es id ≡ true
  there-frame None is h = cc
  there-frame (Some e) is h =
      let found = find-Some (has_id id) es e is in
      list_any-from (is_frame_of id) es e found.0 (and_from (is_frame e) (bytes_eq id e.id) h found.1)

  pub has_frame-there : has_frame es id ≡ is_frame_there (element_of es id)
  has_frame-there = elim (cases_Bool (has_frame es id)) [
    | inl has ↦ has ∙ sym (frame-there has)
    | inr none ↦ none
        ∙ sym (false_from_ne_true (is_frame_there (element_of es id))
        (λ h. both_ways (has_frame es id) none (there-frame (element_of es id) refl h)))
  ]

-- ---- where elements come, change or go
module _ (live after : List ElementValue) (start : List (List ℕ)) where
  -- what elements of no id of these name is of one kind before and after a change
  pub kinds-replaced : (news : List ElementValue) → ((id : List ℕ) → element_of after id ≡ element_after live news id)
      → All (StaysKind live start) news → AreKindsKept live after start
  kinds-replaced news each stay e named there names out =
      by (element_of news named) refl ∙ ap (option_map (λ (x : ElementValue). x.kind)) (sym (each named))
    where
      one : (n : ElementValue) → named ≡ n.id → StaysKind live start n → kind_at live named ≡ Some n.kind
      one n is (inl same) = ap (kind_at live) is ∙ same
      one n is (inr has) = absurd (both_ways (is_among start e.id) out
          (has e there (subst (λ m. names_id m e ≡ true) is names)))

      by : (o : Option ElementValue) → element_of news named ≡ o → kind_at live named
          ≡ option_map (λ (x : ElementValue). x.kind) (option_or (element_of news named) (element_of live named))
      by None is =
          ap (λ o. option_map (λ (x : ElementValue). x.kind) (option_or o (element_of live named))) (sym is)
      by (Some n) is =
          let found = find-Some (has_id named) news n is in
          one n (same_id named n found.1) (All-contains (StaysKind live start) news n stay found.0)
          ∙ ap (λ o. option_map (λ (x : ElementValue). x.kind) (option_or o (element_of live named))) (sym is)

  pub kinds-gone : (gone : List ℕ)
      → ((id : List ℕ) → element_of after id ≡ cond (bytes_eq id gone) None (element_of live id))
      → HasNamers live start gone → AreKindsKept live after start
  kinds-gone gone each namers e named there names out = by (bytes_eq named gone) refl where
    by : (b : Bool) → bytes_eq named gone ≡ b → kind_at live named ≡ kind_at after named
    by true is = absurd (both_ways (is_among start e.id) out
        (namers e there (subst (λ m. names_id m e ≡ true) ((bytes_eq-Decides named gone).0 is) names)))
    by false is = ap (option_map (λ (x : ElementValue). x.kind))
        (sym (each named ∙ ap (λ b. cond b None (element_of live named)) is))

  frame-kind : (o p : Option ElementValue) → option_map (λ (x : ElementValue). x.kind) o
      ≡ option_map (λ (x : ElementValue). x.kind) p → is_frame_there o ≡ is_frame_there p
  frame-kind None None same = refl
  frame-kind None (Some e) same = cc
  frame-kind (Some e) None same = cc
  frame-kind (Some e) (Some f) same = ap is_frame_kind (same_Some e.kind f.kind same)

  frames-kept : are_rising (ids_of live) ≡ true → are_rising (ids_of after) ≡ true → AreKindsKept live after start
      → AreFramesKept live after start
  frames-kept rising rising_after kinds e frame there names out =
      has_frame-there live rising frame
      ∙ frame-kind (element_of live frame) (element_of after frame)
      (kinds e frame there (framed-named frame e names) out)
      ∙ sym (has_frame-there after rising_after frame)

-- ---- where elements are placed, with whatever keys
has_frame-placed : (es drawn : List ElementValue) → map without_index drawn ≡ map without_index (in_scene_order es)
    → (id : List ℕ) → has_frame drawn id ≡ has_frame es id
has_frame-placed es drawn same id =
    sym (list_any-map without_index (is_frame_of id) drawn) ∙ ap (list_any (is_frame_of id)) same
    ∙ list_any-map without_index (is_frame_of id) (in_scene_order es)
    ∙ list_any-IsPermutation (is_frame_of id) (in_scene_order es) es
    (IsPermutation-sym _ _ (IsPermutation-in_scene_order es))

module _ (live after before drawn : List ElementValue) (start : List (List ℕ)) (kinds : AreKindsKept live after start)
    (rising : are_rising (ids_of live) ≡ true) (rising_after : are_rising (ids_of after) ≡ true)
    (before-is : map without_index before ≡ map without_index (in_scene_order live)) (drawn-is : map without_index drawn
    ≡ map without_index (in_scene_order after))
    (from : (e : ElementValue) → Contains before e → (f : ElementValue) × Contains live f
    × (without_index e ≡ without_index f)) where
  named : (e : ElementValue) → Contains before e → is_among start e.id ≡ false → (o : Option (List ℕ)) → e.frame ≡ o
      → option_map_or (has_frame before) o false ≡ option_map_or (has_frame drawn) o false
  named e there out None is = refl
  named e there out (Some frame) is =
      let f = from e there in
      has_frame-placed live before before-is frame
      ∙ frames-kept live after start rising rising_after kinds f.0 frame f.1
      (ap (λ (x : ElementValue). x.frame) (sym f.2)
      ∙ is) (ap (λ (x : ElementValue). is_among start x.id) (sym f.2) ∙ out)
      ∙ sym (has_frame-placed after drawn drawn-is frame)

  pub framed-alike : (id : List ℕ) → is_among start id ≡ false → option_map without_index (element_of before id)
      ≡ option_map without_index (element_of drawn id) → is_framed before id ≡ is_framed drawn id
  framed-alike id out same = by (element_of before id) (element_of drawn id) refl same where
    by : (o p : Option ElementValue) → element_of before id ≡ o
        → option_map without_index o ≡ option_map without_index p
        → option_map_or (keeps_frame (has_frame before)) o false ≡ option_map_or (keeps_frame (has_frame drawn)) p false
    by None None is h = refl
    by None (Some f) is h = cc
    by (Some e) None is h = cc
    by (Some e) (Some f) is h =
        let found = find-Some (has_id id) before e is in
        let alike : without_index e ≡ without_index f = same_Some _ _ h in
        ap (λ b. not (is_frame e) && b) (named e found.0 (ap (is_among start) (sym (same_id id e found.1))
        ∙ out) e.frame refl)
        ∙ ap (keeps_frame (has_frame drawn)) alike
