-- What settling the texts of a list leaves.
use Rattle.std.proofs.Common.{◌≡◌, ℕ, Bool, true, false, cond, ◌&&◌, List, find, Option, Some, None, Contains, refl, sym, ap, subst, ◌∙◌, inl, inr}
use Rattle.std.specs.List.{list_any}
use Rattle.std.specs.Option.{option_map, option_or}
use Rattle.std.proofs.lemmas.Bool.{and_parts, and_from, cases_Bool, cond-true}
use Rattle.std.proofs.lemmas.Slice.Eq.{bytes_eq-Decides}
use Rattle.elem.specs.declared.parts.BoundRef.{BoundRef}
use Rattle.elem.specs.ElementValue.{ElementValue}
use Rattle.elem.specs.Order.{has_id, HaveDistinctIds}
use Rattle.links.specs.Names.{id_of, is_text, is_id, can_hold_text, names_container}
use Rattle.links.specs.Texts.{is_for_text, is_text_entry, listed_text, first_text, text_of, is_text_of, keeps_container, with_settled_container, settled_texts}
use Rattle.links.proofs.Members.{same_bools, bytes_eq-refl, map-same, map-map, find-map, list_any-from, list_any-found, list_any-same, list_any-and, find-Some, find-narrow, one_of_id}
use Rattle.links.proofs.Tabled.{list_any-map, held, not_held}

-- ---- ids that are there
pub is_id-from : (id : List ℕ) (o : Option (List ℕ)) → o ≡ Some id → is_id id o ≡ true
is_id-from id o h = ap (is_id id) h ∙ bytes_eq-refl id

pub is_id-true : (id : List ℕ) (o : Option (List ℕ)) → is_id id o ≡ true → o ≡ Some id
is_id-true id None h = cc
is_id-true id (Some other) h = ap Some (sym ((bytes_eq-Decides id other).0 h))

pub names-one : (e : ElementValue) (a b : List ℕ) → names_container a e ≡ true → names_container b e ≡ true → a ≡ b
names-one e a b h k =
    let first = is_id-true a e.container (and_parts (is_text e.kind) (is_id a e.container) h).1 in
    let second = is_id-true b e.container (and_parts (is_text e.kind) (is_id b e.container) k).1 in
    cc (sym first ∙ second)

-- ---- the text of a container names it
stands_from : (list : List ElementValue) (c : ElementValue) (id : List ℕ) (l : Option BoundRef)
    (f : Option ElementValue) → find (is_text_entry list c) c.bound ≡ l → find (names_container c.id) list ≡ f
    → option_or (option_map (λ (entry : BoundRef). entry.id) l) (option_map id_of f) ≡ Some id
    → list_any (λ text. has_id id text && names_container c.id text) list ≡ true
stands_from list c id (Some entry) f listed first is =
    let passes = (find-Some (is_text_entry list c) c.bound entry listed).1 in
    let there =
    (and_parts (is_for_text entry.role) (list_any (λ text. has_id entry.id text && names_container c.id text) list)
    passes).1 in
    subst (λ i. list_any (λ text. has_id i text && names_container c.id text) list ≡ true) (cc) there
stands_from list c id None (Some text) listed first is =
    let found = find-Some (names_container c.id) list text first in
    list_any-from (λ text. has_id id text && names_container c.id text) list text found.0
    (and_from (has_id id text) (names_container c.id text) ((bytes_eq-Decides id text.id).1 (cc)) found.1)
stands_from list c id None None listed first is = cc

pub text_of-stands : (list : List ElementValue) (c : ElementValue) (id : List ℕ) → text_of list c ≡ Some id
    → list_any (λ text. has_id id text && names_container c.id text) list ≡ true
text_of-stands list c id h =
    elim (cases_Bool (can_hold_text c.kind)) [
      | inl t ↦ stands_from list c id _ _ refl refl (sym (held list c t) ∙ h)
      | inr f ↦ let none : None ≡ Some id = sym (not_held list c f) ∙ h in cc
    ]

cond-none : (b : Bool) (o : Option (List ℕ)) → cond b o o ≡ o
cond-none true o = refl
cond-none false o = refl

-- ---- a settled list of texts
module _ (list : List ElementValue) (distinct : HaveDistinctIds list) where
  names-settled : (id : List ℕ) (e : ElementValue) → names_container id (with_settled_container list e)
      ≡ (names_container id e && keeps_container list e)
  names-settled id e =
      elim (keeps_container list e) as (λ b. (is_text e.kind && is_id id (cond b e.container None))
      ≡ ((is_text e.kind && is_id id e.container) && b)) [
        | true ↦ sym (and_true (is_text e.kind && is_id id e.container))
        | false ↦ and_false (is_text e.kind) ∙ sym (and_false (is_text e.kind && is_id id e.container))
      ]
    where
      and_true : (a : Bool) → (a && true) ≡ a
      and_true true = refl
      and_true false = refl

      and_false : (a : Bool) → (a && false) ≡ false
      and_false true = refl
      and_false false = refl

  -- a text keeps a container of the list that it names exactly if it is that container's text
  pub keeps-at : (c e : ElementValue) → Contains list c → names_container c.id e ≡ true
      → keeps_container list e ≡ is_id e.id (text_of list c)
  unfolding keeps_container
  keeps-at c e there named =
      same_bools _ _
      (λ keeps.
      let found =
      list_any-found (λ container. is_text_of list e.id container && names_container container.id e) list keeps in
      let parts = and_parts (is_text_of list e.id found.0) (names_container found.0.id e) found.2 in
      let same : found.0 ≡ c =
      one_of_id list found.0 c distinct found.1 there (names-one e found.0.id c.id parts.1 named) in
      subst (λ d. is_text_of list e.id d ≡ true) same parts.0)
      (λ is. list_any-from (λ container. is_text_of list e.id container && names_container container.id e) list c there
      (and_from (is_text_of list e.id c) (names_container c.id e) is named))

  -- the entries for the texts of a settled list are those for the container's text
  rearranged : (a b d k : Bool) → ((a ≡ true) → (b ≡ true) → k ≡ d) → (a && (b && k)) ≡ ((a && b) && d)
  rearranged true true d k h = h refl refl
  rearranged true false d k h = refl
  rearranged false b d k h = refl

  and_assoc : (a b d : Bool) → (a && (b && d)) ≡ ((a && b) && d)
  and_assoc true b d = refl
  and_assoc false b d = refl

  entry-settled : (c : ElementValue) (entry : BoundRef) → Contains list c
      → is_text_entry (settled_texts list) (with_settled_container list c) entry
      ≡ (is_text_entry list c entry && is_id entry.id (text_of list c))
  entry-settled c entry there =
      let one = λ (t : ElementValue). has_id entry.id t && names_container c.id t in
      let own = is_id entry.id (text_of list c) in
      ap (λ b. is_for_text entry.role && b)
      (list_any-map (with_settled_container list) (λ t. has_id entry.id t && names_container c.id t) list
      ∙ list_any-same (λ t. has_id entry.id t && names_container c.id (with_settled_container list t)) (λ t. one t
      && own) list
      (λ t among. ap (λ b. has_id entry.id t && b) (names-settled c.id t)
      ∙ rearranged (has_id entry.id t) (names_container c.id t) own (keeps_container list t)
      (λ is named. keeps-at c t there named
      ∙ ap (λ i. is_id i (text_of list c)) (sym ((bytes_eq-Decides entry.id t.id).0 is))))
      ∙ list_any-and one own list)
      ∙ and_assoc (is_for_text entry.role) (list_any one list) own

  and_both : (a b : Bool) → (a && b) ≡ true → a ≡ true
  and_both a b h = (and_parts a b h).0

  -- so a container has the text that it had
  module _ (c : ElementValue) (there : Contains list c) (holds : can_hold_text c.kind ≡ true) where
    listed-settled : find (is_text_entry (settled_texts list) (with_settled_container list c)) c.bound
        ≡ find (is_text_entry list c) c.bound
    listed-settled =
        find-narrow (is_text_entry list c) (is_text_entry (settled_texts list) (with_settled_container list c)) c.bound
        (λ entry h. and_both (is_text_entry list c entry) (is_id entry.id (text_of list c))
        (sym (entry-settled c entry there) ∙ h))
        (λ entry h. entry-settled c entry there
        ∙ and_from (is_text_entry list c entry) (is_id entry.id (text_of list c))
        (find-Some (is_text_entry list c) c.bound entry h).1
        (is_id-from entry.id (text_of list c)
        (held list c holds ∙ ap (λ o. option_or (option_map (λ (x : BoundRef). x.id) o) (first_text list c)) h)))

    first-settled : find (is_text_entry list c) c.bound ≡ None
        → first_text (settled_texts list) (with_settled_container list c) ≡ first_text list c
    first-settled none =
        let q = λ (t : ElementValue). names_container c.id (with_settled_container list t) in
        let is_first : text_of list c ≡ first_text list c =
        held list c holds ∙ ap (λ o. option_or (option_map (λ (x : BoundRef). x.id) o) (first_text list c)) none in
        ap (option_map id_of) (find-map (names_container c.id) (with_settled_container list) list)
        ∙ same_id (find q list)
        ∙ ap (option_map id_of) (find-narrow (names_container c.id) q list
        (λ t h. and_both (names_container c.id t) (keeps_container list t) (sym (names-settled c.id t) ∙ h))
        (λ t h. let found = find-Some (names_container c.id) list t h in
        names-settled c.id t ∙ and_from (names_container c.id t) (keeps_container list t) found.1
        (keeps-at c t there found.1 ∙ is_id-from t.id (text_of list c) (is_first ∙ ap (option_map id_of) h))))
      where
        same_id : (o : Option ElementValue) → option_map id_of (option_map (with_settled_container list) o)
            ≡ option_map id_of o
        same_id None = refl
        same_id (Some t) = refl

    settled_from : (o : Option BoundRef) → find (is_text_entry list c) c.bound ≡ o
        → option_or (listed_text (settled_texts list) (with_settled_container list c))
        (first_text (settled_texts list) (with_settled_container list c))
        ≡ option_or (listed_text list c) (first_text list c)
    settled_from (Some entry) is =
        let id = λ (x : BoundRef). x.id in
        ap (λ o. option_or (option_map id o) (first_text (settled_texts list) (with_settled_container list c)))
        (listed-settled ∙ is)
        ∙ sym (ap (λ o. option_or (option_map id o) (first_text list c)) is)
    settled_from None is =
        let id = λ (x : BoundRef). x.id in
        ap (λ o. option_or (option_map id o) (first_text (settled_texts list) (with_settled_container list c)))
        (listed-settled ∙ is)
        ∙ first-settled is ∙ sym (ap (λ o. option_or (option_map id o) (first_text list c)) is)

  pub text_of-settled : (c : ElementValue) → Contains list c
      → text_of (settled_texts list) (with_settled_container list c) ≡ text_of list c
  text_of-settled c there =
      elim (cases_Bool (can_hold_text c.kind)) [
        | inl t ↦ held (settled_texts list) (with_settled_container list c) t ∙ settled_from c there t _ refl
            ∙ sym (held list c t)
        | inr f ↦ not_held (settled_texts list) (with_settled_container list c) f ∙ sym (not_held list c f)
      ]

  -- a text that keeps its container still does
  keeps-settled : (e : ElementValue) → keeps_container list e ≡ true
      → keeps_container (settled_texts list) (with_settled_container list e) ≡ true
  unfolding keeps_container
  keeps-settled e keeps =
      let found =
      list_any-found (λ container. is_text_of list e.id container && names_container container.id e) list keeps in
      let parts = and_parts (is_text_of list e.id found.0) (names_container found.0.id e) found.2 in
      list_any-map (with_settled_container list) (λ container. is_text_of (settled_texts list) e.id container
      && names_container container.id (with_settled_container list e)) list
      ∙ list_any-from (λ container. is_text_of (settled_texts list) e.id (with_settled_container list container)
      && names_container container.id (with_settled_container list e)) list found.0 found.1
      (and_from _ _ (ap (is_id e.id) (text_of-settled found.0 found.1) ∙ parts.0)
      (names-settled found.0.id e ∙ and_from (names_container found.0.id e) (keeps_container list e) parts.1 keeps))

  container-settled : (e : ElementValue) → (b : Bool) → keeps_container list e ≡ b
      → cond (keeps_container (settled_texts list) (with_settled_container list e)) (cond b e.container None) None
      ≡ cond b e.container None
  container-settled e true keeps = cond-true (keeps_container (settled_texts list) (with_settled_container list e))
      e.container None (keeps-settled e keeps)
  container-settled e false keeps =
      cond-none (keeps_container (settled_texts list) (with_settled_container list e)) None

  -- each settled list settled again is itself
  pub settled_texts-again : settled_texts (settled_texts list) ≡ settled_texts list
  settled_texts-again =
      map-map (with_settled_container (settled_texts list)) (with_settled_container list) list
      ∙ map-same (λ e. with_settled_container (settled_texts list) (with_settled_container list e))
      (with_settled_container list) list
      (λ e among. ap (λ container. record e { container = container })
      (container-settled e (keeps_container list e) refl))
