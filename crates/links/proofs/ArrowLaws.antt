-- What settling the arrows of a list leaves.
use Rattle.std.proofs.Common.{◌≡◌, ℕ, ◌≤◌, Bool, true, false, cond, not, ◌&&◌, ◌||◌, List, [], ◌∷◌, ◌++◌, length, find, filter, map, Option, Some, None, IfSome, Contains, bytes_eq, refl, sym, ap, ap₂, subst, ◌∙◌, inl, inr, append_assoc, arith}
use Rattle.std.specs.List.{list_any, list_all}
use Rattle.std.specs.Option.{option_map, option_or}
use Rattle.std.proofs.lemmas.Bool.{and_parts, and_from, or_cases, or_left, or_right, cases_Bool, cond-true, cond-false, cond_both}
use Rattle.std.proofs.lemmas.List.Elements.{filter_agree}
use Rattle.std.proofs.lemmas.List.Folds.{list_any-append}
use Rattle.std.proofs.lemmas.Option.{same_Some}
use Rattle.std.proofs.lemmas.Slice.Eq.{bytes_eq-Decides}
use Rattle.elem.specs.declared.kind.Role.{Role}
use Rattle.elem.specs.declared.kind.Role.TheVariants.{Arrow, Text}
use Rattle.elem.specs.declared.parts.BoundRef.{BoundRef}
use Rattle.elem.specs.declared.parts.Binding.{Binding}
use Rattle.elem.specs.ElementValue.{ElementValue}
use Rattle.elem.specs.Order.{has_id, HaveDistinctIds}
use Rattle.links.specs.Names.{id_of, is_arrow, is_text, is_id, can_hold_text, names_container, target_of, end_names, has_end_at, is_target}
use Rattle.elem.specs.Listings.{same_listing_entry}
use Rattle.links.specs.Entries.{lists, arrow_entry, text_entry, first_entries}
use Rattle.links.specs.Texts.{is_for_text, is_text_entry, listed_text, first_text, text_of, is_text_of, keeps_container, with_settled_container, settled_texts}
use Rattle.links.specs.Arrows.{names_target, settled_end, is_bound_to, is_true_as, is_true_entry, arrow_entries, text_entries, listing, with_settled_links, settled_arrows}
use Rattle.links.specs.Settled.{ArrowsAgree, TextsAgree, texts_listed, HaveOneText, NameTargets}
use Rattle.links.proofs.EntryLaws.{same_listing_entry-true, same_listing_entry-refl, first_entries-filter, list_any-first_entries, first_entries-again}
use Rattle.links.proofs.Members.{same_bools, bytes_eq-refl, map-same, map-map, map-fixed, filter-map, find-map, Contains-map, list_any-from, list_any-found, list_any-same, find-Some, find-found, find-None, one_of_id}
use Rattle.links.proofs.Tabled.{list_any-map, list_any-filter, held, not_held}
use Rattle.links.proofs.TextLaws.{is_id-from, is_id-true, text_of-stands, keeps-at}

-- ---- what a listing has
module _ (list : List ElementValue) (e : ElementValue) where
  lists-listing : (x : BoundRef) → lists (listing list e) x
      ≡ (lists (filter (is_true_entry list e) e.bound) x
      || (lists (arrow_entries list e) x || lists (text_entries (text_of list e)) x))
  unfolding listing
  lists-listing x =
      list_any-first_entries (same_listing_entry x) (filter (is_true_entry list e) e.bound
      ++ (arrow_entries list e ++ text_entries (text_of list e)))
      ∙ list_any-append (same_listing_entry x) (filter (is_true_entry list e) e.bound) (arrow_entries list e
      ++ text_entries (text_of list e))
      ∙ ap (λ b. lists (filter (is_true_entry list e) e.bound) x || b)
      (list_any-append (same_listing_entry x) (arrow_entries list e) (text_entries (text_of list e)))

  own-true : (x : BoundRef) → lists (filter (is_true_entry list e) e.bound) x ≡ true → is_true_entry list e x ≡ true
  own-true x h =
      let found = list_any-found (λ z. is_true_entry list e z && same_listing_entry x z) e.bound
      (sym (list_any-filter (is_true_entry list e) (same_listing_entry x) e.bound) ∙ h) in
      let parts = and_parts (is_true_entry list e found.0) (same_listing_entry x found.0) found.2 in
      ap (is_true_entry list e) (same_listing_entry-true x found.0 parts.1) ∙ parts.0

  arrows-true : (x : BoundRef) → lists (arrow_entries list e) x ≡ true → is_true_entry list e x ≡ true
  arrows-true x h =
      let any = sym (list_any-map (λ (arrow : ElementValue). arrow_entry arrow.id) (same_listing_entry x)
      (filter (is_bound_to e) list)
      ∙ list_any-filter (is_bound_to e) (λ (arrow : ElementValue). same_listing_entry x (arrow_entry arrow.id)) list)
      ∙ h in
      let found =
      list_any-found (λ (a : ElementValue). is_bound_to e a && same_listing_entry x (arrow_entry a.id)) list any in
      let parts = and_parts (is_bound_to e found.0) (same_listing_entry x (arrow_entry found.0.id)) found.2 in
      ap (is_true_entry list e) (same_listing_entry-true x (arrow_entry found.0.id) parts.1)
      ∙ list_any-from (λ a. has_id found.0.id a && is_bound_to e a) list found.0 found.1
      (and_from (has_id found.0.id found.0) (is_bound_to e found.0) (bytes_eq-refl found.0.id) parts.0)

  text-true : (x : BoundRef) (o : Option (List ℕ)) → text_of list e ≡ o → lists (text_entries o) x ≡ true
      → is_true_entry list e x ≡ true
  text-true x None is h = cc
  text-true x (Some id) is h =
      elim (or_cases (same_listing_entry x (text_entry id)) false h) [
        | inl same ↦ ap (is_true_entry list e) (same_listing_entry-true x (text_entry id) same)
            ∙ is_id-from id (text_of list e) is
        | inr wrong ↦ cc
      ]

  -- all its entries are true
  pub listed-true : (x : BoundRef) → lists (listing list e) x ≡ true → is_true_entry list e x ≡ true
  listed-true x h =
      elim (or_cases _ _ (sym (lists-listing x) ∙ h)) [
        | inl own' ↦ own-true x own'
        | inr later ↦ elim (or_cases _ _ later) [
          | inl arrow ↦ arrows-true x arrow
          | inr text ↦ text-true x (text_of list e) refl text
        ]
      ]

  -- and it has all that it is to have
  pub listed-arrow : (a : ElementValue) → Contains list a → is_bound_to e a ≡ true
      → lists (listing list e) (arrow_entry a.id) ≡ true
  listed-arrow a there bound =
      let x = arrow_entry a.id in
      let any : lists (arrow_entries list e) x ≡ true =
      list_any-map (λ (arrow : ElementValue). arrow_entry arrow.id) (same_listing_entry x)
      (filter (is_bound_to e) list)
      ∙ list_any-filter (is_bound_to e) (λ (arrow : ElementValue). same_listing_entry x (arrow_entry arrow.id)) list
      ∙ list_any-from (λ (b : ElementValue). is_bound_to e b && same_listing_entry x (arrow_entry b.id)) list a there
      (and_from (is_bound_to e a) (same_listing_entry x x) bound (same_listing_entry-refl x)) in
      lists-listing x ∙ or_right _ _ (or_left _ _ any)

  pub listed-text : (id : List ℕ) → text_of list e ≡ Some id → lists (listing list e) (text_entry id) ≡ true
  listed-text id is =
      lists-listing (text_entry id)
      ∙ or_right _ _ (or_right _ _ (ap (λ o. lists (text_entries o) (text_entry id)) is
      ∙ or_left (same_listing_entry (text_entry id) (text_entry id)) false
      (same_listing_entry-refl (text_entry id))))

-- ---- entries that are listed
filter-listed : (p : BoundRef → Bool) (xs : List BoundRef) → ((x : BoundRef) → lists xs x ≡ true → p x ≡ true)
    → filter p xs ≡ xs
filter-listed p [] h = refl
filter-listed p (x ∷ xs) h =
    cond-true (p x) (x ∷ filter p xs) (filter p xs)
    (h x (or_left (same_listing_entry x x) (lists xs x) (same_listing_entry-refl x)))
    ∙ ap (λ ys. x ∷ ys) (filter-listed p xs (λ y l. h y (or_right (same_listing_entry y x) (lists xs y) l)))

suffix-listed : (xs ys : List BoundRef) → list_all (lists (first_entries (xs ++ ys))) ys ≡ true
suffix-listed xs [] = refl
suffix-listed xs (y ∷ ys) =
    and_from _ _
    (list_any-first_entries (same_listing_entry y) (xs ++ y ∷ ys)
    ∙ list_any-append (same_listing_entry y) xs (y ∷ ys)
    ∙ or_right (lists xs y) (lists (y ∷ ys) y)
    (or_left (same_listing_entry y y) (lists ys y) (same_listing_entry-refl y)))
    (subst (λ zs. list_all (lists (first_entries zs)) ys ≡ true) (append_assoc xs (y ∷ []) ys)
    (suffix-listed (xs ++ y ∷ []) ys))

-- ---- a list with settled arrows
module _ (list : List ElementValue) where
  -- what its ends name are still targets
  pub names_target-settled : (target : Option (List ℕ)) → names_target (settled_arrows list) target
      ≡ names_target list target
  names_target-settled None = refl
  names_target-settled (Some id) = list_any-map (with_settled_links list) (λ t. has_id id t && is_target t) list

  end-cases : (end' : Option Binding) (b : Bool) → names_target list (target_of end') ≡ b
      → cond (names_target (settled_arrows list) (target_of (cond b end' None))) (cond b end' None) None
      ≡ cond b end' None
  end-cases end' true h = cond-true (names_target (settled_arrows list) (target_of end')) end' None
      (names_target-settled (target_of end') ∙ h)
  end-cases end' false h = refl

  end-again : (end' : Option Binding) → settled_end (settled_arrows list) (settled_end list end')
      ≡ settled_end list end'
  end-again end' = end-cases end' (names_target list (target_of end')) refl

  -- an end that names a target of the list keeps its binding
  end-kept : (e : ElementValue) (end' : Option Binding) → Contains list e → is_target e ≡ true
      → end_names e.id (settled_end list end') ≡ end_names e.id end'
  end-kept e None there target = refl
  end-kept e (Some binding) there target =
      elim (cases_Bool (bytes_eq e.id binding.target)) [
        | inl t ↦
            let same = (bytes_eq-Decides e.id binding.target).0 t in
            ap (end_names e.id) (cond-true (names_target list (Some binding.target)) (Some binding) None
            (list_any-from (λ x. has_id binding.target x && is_target x) list e there
            (and_from (has_id binding.target e) (is_target e) ((bytes_eq-Decides binding.target e.id).1 (sym same))
            target)))
        | inr f ↦ either (names_target list (Some binding.target)) f
      ]
    where
      either : (b : Bool) → bytes_eq e.id binding.target ≡ false → end_names e.id (cond b (Some binding) None)
          ≡ bytes_eq e.id binding.target
      either true f = refl
      either false f = sym f

  bound-settled : (e a : ElementValue) → Contains list e
      → is_bound_to (with_settled_links list e) (with_settled_links list a) ≡ is_bound_to e a
  bound-settled e a there = by (is_target e) refl where
    by : (b : Bool) → is_target e ≡ b
        → (is_target e && (is_arrow a.kind && (end_names e.id (settled_end list a.start_binding)
        || end_names e.id (settled_end list a.end_binding)))) ≡ is_bound_to e a
    by true target =
        ap₂ (λ x y. is_target e && (is_arrow a.kind && (x || y))) (end-kept e a.start_binding there target)
        (end-kept e a.end_binding there target)
    by false target =
        ap (λ b. b && (is_arrow a.kind && (end_names e.id (settled_end list a.start_binding)
        || end_names e.id (settled_end list a.end_binding)))) target
        ∙ sym (ap (λ b. b && has_end_at e.id a) target)

  -- ---- texts stay
  text_entry-settled : (c : ElementValue) (entry : BoundRef)
      → is_text_entry (settled_arrows list) (with_settled_links list c) entry ≡ is_text_entry list c entry
  text_entry-settled c entry =
      ap (λ b. is_for_text entry.role && b) (list_any-map (with_settled_links list) (λ t. has_id entry.id t
      && names_container c.id t) list)

  first-settled : (c : ElementValue) → first_text (settled_arrows list) (with_settled_links list c)
      ≡ first_text list c
  first-settled c = ap (option_map id_of) (find-map (names_container c.id) (with_settled_links list) list)
      ∙ same_id (find (names_container c.id) list) where
        same_id : (o : Option ElementValue) → option_map id_of (option_map (with_settled_links list) o)
            ≡ option_map id_of o
        same_id None = refl
        same_id (Some t) = refl

  text_role : (r : Role) → is_for_text r ≡ true → r ≡ Text
  text_role Text h = refl
  text_role Arrow h = cc

  -- a listed entry for a text that names the container is for its text
  entry-is : (c : ElementValue) (x : BoundRef) → lists (listing list c) x ≡ true
      → is_text_entry (settled_arrows list) (with_settled_links list c) x ≡ true → text_of list c ≡ Some x.id
  entry-is c x listed passes =
      let role = text_role x.role (and_parts (is_for_text x.role) _ passes).0 in
      is_id-true x.id (text_of list c) (subst (λ r. is_true_as r list c x.id ≡ true) role
      (listed-true list c x listed))

  Contains-lists : (xs : List BoundRef) (x : BoundRef) → Contains xs x → lists xs x ≡ true
  Contains-lists xs x there = list_any-from (same_listing_entry x) xs x there (same_listing_entry-refl x)

  text-kept : (c : ElementValue) (o : Option (List ℕ)) → can_hold_text c.kind ≡ true → text_of list c ≡ o
      → option_or (listed_text (settled_arrows list) (with_settled_links list c))
      (first_text (settled_arrows list) (with_settled_links list c)) ≡ o
  text-kept c (Some id) holds is =
      let q = is_text_entry (settled_arrows list) (with_settled_links list c) in
      let passes : q (text_entry id) ≡ true = text_entry-settled c (text_entry id) ∙ text_of-stands list c id is in
      let some = list_any-found (same_listing_entry (text_entry id)) (listing list c) (listed-text list c id is) in
      let any : list_any q (listing list c) ≡ true =
      list_any-from q (listing list c) some.0 some.1
      (ap q (sym (same_listing_entry-true (text_entry id) some.0 some.2)) ∙ passes) in
      let found = find-found q (listing list c) any in
      let there = find-Some q (listing list c) found.0 found.1 in
      let same : Some found.0.id ≡ Some id =
      sym (entry-is c found.0 (Contains-lists (listing list c) found.0 there.0) there.1) ∙ is in
      ap (λ l. option_or (option_map (λ (x : BoundRef). x.id) l)
      (first_text (settled_arrows list) (with_settled_links list c))) found.1 ∙ same
  text-kept c None holds is =
      let q = is_text_entry (settled_arrows list) (with_settled_links list c) in
      let none : find q (listing list c) ≡ None =
      find-None q (listing list c) (λ x there. fails (q x) (λ h. let some = sym is
      ∙ entry-is c x (Contains-lists (listing list c) x there) h in cc)) in
      ap (λ l. option_or (option_map (λ (x : BoundRef). x.id) l)
      (first_text (settled_arrows list) (with_settled_links list c))) none
      ∙ first-settled c ∙ second (listed_text list c) (first_text list c) (sym (held list c holds) ∙ is)
    where
      fails : (b : Bool) → (b ≡ true → ⊥) → b ≡ false
      fails true h = absurd (h refl)
      fails false h = refl

      second : (a b : Option (List ℕ)) → option_or a b ≡ None → b ≡ None
      second None b h = h
      second (Some a) b h = cc

  pub text_of-linked : (c : ElementValue) → text_of (settled_arrows list) (with_settled_links list c)
      ≡ text_of list c
  text_of-linked c =
      elim (cases_Bool (can_hold_text c.kind)) [
        | inl t ↦ held (settled_arrows list) (with_settled_links list c) t ∙ text-kept c (text_of list c) t refl
        | inr f ↦ not_held (settled_arrows list) (with_settled_links list c) f ∙ sym (not_held list c f)
      ]

  keeps-linked : (e : ElementValue) → keeps_container (settled_arrows list) (with_settled_links list e)
      ≡ keeps_container list e
  unfolding keeps_container
  keeps-linked e =
      list_any-map (with_settled_links list) (λ c. is_text_of (settled_arrows list) e.id c && names_container c.id e)
      list
      ∙ list_any-same (λ c. is_text_of (settled_arrows list) e.id (with_settled_links list c)
      && names_container c.id e)
      (λ c. is_text_of list e.id c && names_container c.id e) list
      (λ c there. ap (λ o. is_id e.id o && names_container c.id e) (text_of-linked c))

  -- settled texts stay settled
  pub settled_texts-linked : settled_texts list ≡ list → settled_texts (settled_arrows list) ≡ settled_arrows list
  settled_texts-linked texts =
      map-map (with_settled_container (settled_arrows list)) (with_settled_links list) list
      ∙ map-same (λ e. with_settled_container (settled_arrows list) (with_settled_links list e))
      (with_settled_links list) list
      (λ e there.
      let own : cond (keeps_container list e) e.container None ≡ e.container =
      ap (λ (x : ElementValue). x.container) (map-fixed (with_settled_container list) list e texts there) in
      ap (λ container. record (with_settled_links list e) { container = container })
      (ap (λ b. cond b e.container None) (keeps-linked e) ∙ own))

  -- ---- listings stay
  true-settled : (e : ElementValue) (x : BoundRef) (r : Role) → x.role ≡ r → Contains list e
      → is_true_entry (settled_arrows list) (with_settled_links list e) x ≡ is_true_entry list e x
  true-settled e x Arrow is there =
      ap (λ r. is_true_as r (settled_arrows list) (with_settled_links list e) x.id) is
      ∙ list_any-map (with_settled_links list) (λ a. has_id x.id a && is_bound_to (with_settled_links list e) a) list
      ∙ list_any-same (λ a. has_id x.id a && is_bound_to (with_settled_links list e) (with_settled_links list a))
      (λ a. has_id x.id a && is_bound_to e a) list
      (λ a _. ap (λ b. has_id x.id a && b) (bound-settled e a there))
      ∙ sym (ap (λ r. is_true_as r list e x.id) is)
  true-settled e x Text is there =
      ap (λ r. is_true_as r (settled_arrows list) (with_settled_links list e) x.id) is
      ∙ ap (is_id x.id) (text_of-linked e)
      ∙ sym (ap (λ r. is_true_as r list e x.id) is)

  arrows-settled : (e : ElementValue) → Contains list e
      → arrow_entries (settled_arrows list) (with_settled_links list e) ≡ arrow_entries list e
  arrows-settled e there =
      ap (map (λ (a : ElementValue). arrow_entry a.id))
      (filter-map (is_bound_to (with_settled_links list e)) (with_settled_links list) list)
      ∙ map-map (λ (a : ElementValue). arrow_entry a.id) (with_settled_links list)
      (filter (λ a. is_bound_to (with_settled_links list e) (with_settled_links list a)) list)
      ∙ ap (map (λ (a : ElementValue). arrow_entry a.id))
      (filter_agree (λ a. is_bound_to (with_settled_links list e) (with_settled_links list a)) (is_bound_to e)
      (λ a. bound-settled e a there) list)

  listing-again : (e : ElementValue) → Contains list e → listing (settled_arrows list) (with_settled_links list e)
      ≡ listing list e
  unfolding listing
  listing-again e there =
      let entries = arrow_entries list e ++ text_entries (text_of list e) in
      let true' = filter (is_true_entry list e) e.bound in
      let kept : filter (is_true_entry (settled_arrows list) (with_settled_links list e)) (listing list e)
      ≡ listing list e =
      filter_agree (is_true_entry (settled_arrows list) (with_settled_links list e)) (is_true_entry list e)
      (λ x. true-settled e x x.role refl there) (listing list e)
      ∙ filter-listed (is_true_entry list e) (listing list e) (listed-true list e) in
      ap₂ (λ xs ys. first_entries (xs ++ ys)) kept
      (ap₂ (λ xs o. xs ++ text_entries o) (arrows-settled e there) (text_of-linked e))
      ∙ first_entries-again (true' ++ entries) entries (suffix-listed true' entries)

  pub settled_arrows-again : settled_arrows (settled_arrows list) ≡ settled_arrows list
  settled_arrows-again =
      map-map (with_settled_links (settled_arrows list)) (with_settled_links list) list
      ∙ map-same (λ e. with_settled_links (settled_arrows list) (with_settled_links list e))
      (with_settled_links list)
      list
      (λ e there. λ i. record e {
        start_binding = end-again e.start_binding i;
        end_binding = end-again e.end_binding i;
        bound = listing-again e there i;
      })

  -- ---- each binding names a target
  pub NameTargets-settled : NameTargets (settled_arrows list)
  NameTargets-settled e there =
      let from = Contains-map (with_settled_links list) list e there in
      subst (λ (x : ElementValue). IfSome x.start_binding
      (λ (b : Binding). names_target (settled_arrows list) (Some b.target) ≡ true)
      × IfSome x.end_binding (λ (b : Binding). names_target (settled_arrows list) (Some b.target) ≡ true))
      from.2 (kept from.0.start_binding, kept from.0.end_binding)
    where
      kept : (end' : Option Binding) → IfSome (settled_end list end')
          (λ (b : Binding). names_target (settled_arrows list) (Some b.target) ≡ true)
      kept end' = cond_both (names_target list (target_of end')) end' None
          (λ o. IfSome o (λ (b : Binding). names_target (settled_arrows list) (Some b.target) ≡ true))
          (λ h. some end' h) (λ _. tt) where
            some : (end' : Option Binding) → names_target list (target_of end') ≡ true
                → IfSome end' (λ (b : Binding). names_target (settled_arrows list) (Some b.target) ≡ true)
            some None h = tt
            some (Some b) h = names_target-settled (Some b.target) ∙ h

  -- ---- one text at most
  same_ones : (xs : List BoundRef) → ((x y : BoundRef) → lists xs x ≡ true → lists xs y ≡ true → x ≡ y)
      → length (first_entries xs) ≤ 1
  same_ones [] h = omega arith
  same_ones (x ∷ xs) h =
      let none : filter (λ y. not (same_listing_entry x y)) (first_entries xs) ≡ [] =
      nothing (λ y. not (same_listing_entry x y)) (first_entries xs)
      (λ y l. let here = or_left (same_listing_entry x x) (lists xs x) (same_listing_entry-refl x) in
      let later =
      or_right (same_listing_entry y x) (lists xs y) (sym (list_any-first_entries (same_listing_entry y) xs) ∙ l) in
      ap not (ap (same_listing_entry x) (sym (h x y here later)) ∙ same_listing_entry-refl x)) in
      subst (λ ys. length (x ∷ ys) ≤ 1) (sym none) (omega arith)
    where
      nothing : (p : BoundRef → Bool) (ys : List BoundRef) → ((y : BoundRef) → lists ys y ≡ true → p y ≡ false)
          → filter p ys ≡ []
      nothing p [] h = refl
      nothing p (y ∷ ys) h =
          cond-false (p y) (y ∷ filter p ys) (filter p ys)
          (h y (or_left (same_listing_entry y y) (lists ys y) (same_listing_entry-refl y)))
          ∙ nothing p ys (λ z l. h z (or_right (same_listing_entry z y) (lists ys z) l))

  one-listed : (e : ElementValue) → length (filter (λ (x : BoundRef). is_for_text x.role) (listing list e)) ≤ 1
  unfolding listing
  one-listed e =
      let p = λ (x : BoundRef). is_for_text x.role in
      let zs = filter (is_true_entry list e) e.bound ++ (arrow_entries list e ++ text_entries (text_of list e)) in
      subst (λ ys. length ys ≤ 1) (first_entries-filter p zs)
      (same_ones (filter p zs) (λ x y l m.
      let first = text_is e x (passed zs x l) in
      let second = text_is e y (passed zs y m) in
      let id : x.id ≡ y.id = same_Some x.id y.id (sym first.0 ∙ second.0) in
      let role : x.role ≡ y.role = first.1 ∙ sym second.1 in
      λ i. record { id = id i; role = role i }))
    where
      -- an entry for a text among these is the one for the element's text
      passed : (zs : List BoundRef) (x : BoundRef) → lists (filter (λ (x : BoundRef). is_for_text x.role) zs) x
          ≡ true
          → (lists (first_entries zs) x ≡ true) × (is_for_text x.role ≡ true)
      passed zs x l =
          let found = list_any-found (λ z. is_for_text z.role && same_listing_entry x z) zs
          (sym (list_any-filter (λ (x : BoundRef). is_for_text x.role) (same_listing_entry x) zs) ∙ l) in
          let parts = and_parts (is_for_text found.0.role) (same_listing_entry x found.0) found.2 in (
            list_any-first_entries (same_listing_entry x) zs
                ∙ list_any-from (same_listing_entry x) zs found.0 found.1 parts.1,
            ap (λ (z : BoundRef). is_for_text z.role) (same_listing_entry-true x found.0 parts.1) ∙ parts.0,
          )

      text_is : (e : ElementValue) (x : BoundRef) → (lists (listing list e) x ≡ true) × (is_for_text x.role ≡ true)
          → (text_of list e ≡ Some x.id) × (x.role ≡ Text)
      text_is e x l =
          let role = text_role x.role l.1 in (
            is_id-true x.id (text_of list e)
                (subst (λ r. is_true_as r list e x.id ≡ true) role (listed-true list e x l.0)),
            role,
          )

  pub HaveOneText-settled : HaveOneText (settled_arrows list)
  HaveOneText-settled e there =
      let from = Contains-map (with_settled_links list) list e there in
      subst (λ (x : ElementValue). length (texts_listed x) ≤ 1) from.2 (one-listed from.0)

  -- ---- names and listings agree
  module _ (distinct : HaveDistinctIds list) where
    end-target : (e : ElementValue) (end' : Option Binding) → Contains list e
        → end_names e.id (settled_end list end') ≡ true → is_target e ≡ true
    end-target e end' there = cond_both (names_target list (target_of end')) end' None (λ o. end_names e.id o ≡ true
        → is_target e ≡ true) (λ kept named. target end' kept named) (λ _ named. cc) where
          target : (end' : Option Binding) → names_target list (target_of end') ≡ true → end_names e.id end' ≡ true
              → is_target e ≡ true
          target None kept named = cc
          target (Some b) kept named =
              let found = list_any-found (λ t. has_id b.target t && is_target t) list kept in
              let parts = and_parts (has_id b.target found.0) (is_target found.0) found.2 in
              let same : e.id ≡ found.0.id =
              (bytes_eq-Decides e.id b.target).0 named ∙ (bytes_eq-Decides b.target found.0.id).0 parts.0 in
              ap is_target (one_of_id list e found.0 distinct there found.1 same) ∙ parts.1

    -- after its ends are settled an arrow names exactly what it was bound to
    names-bound : (a e : ElementValue) → Contains list e → has_end_at e.id (with_settled_links list a)
        ≡ is_bound_to e a
    names-bound a e there =
        same_bools _ _
        (λ named.
        let parts = and_parts (is_arrow a.kind) (end_names e.id (settled_end list a.start_binding)
        || end_names e.id (settled_end list a.end_binding)) named in
        let target : is_target e ≡ true = elim (or_cases _ _ parts.1) [
          | inl start ↦ end-target e a.start_binding there start
          | inr end' ↦ end-target e a.end_binding there end'
        ] in
        sym (bound-settled e a there) ∙ and_from (is_target e) (has_end_at e.id (with_settled_links list a)) target
        named)
        (λ bound. (and_parts (is_target e) (has_end_at e.id (with_settled_links list a)) (bound-settled e a there
        ∙ bound)).1)

    arrow-listed : (a e : ElementValue) → Contains list a
        → lists (listing list e) (arrow_entry a.id) ≡ is_bound_to e a
    arrow-listed a e there =
        same_bools _ _
        (λ listed.
        let found = list_any-found (λ b. has_id a.id b && is_bound_to e b) list
        (listed-true list e (arrow_entry a.id) listed) in
        let parts = and_parts (has_id a.id found.0) (is_bound_to e found.0) found.2 in
        ap (is_bound_to e) (one_of_id list a found.0 distinct there found.1
        ((bytes_eq-Decides a.id found.0.id).0 parts.0)) ∙ parts.1)
        (listed-arrow list e a there)

    pub ArrowsAgree-settled : ArrowsAgree (settled_arrows list)
    ArrowsAgree-settled arrow e c d =
        let a = Contains-map (with_settled_links list) list arrow c in
        let f = Contains-map (with_settled_links list) list e d in
        subst (λ (x : ElementValue). has_end_at e.id x ≡ lists e.bound (arrow_entry x.id)) a.2
        (subst (λ (y : ElementValue). has_end_at y.id (with_settled_links list a.0)
        ≡ lists y.bound (arrow_entry a.0.id)) f.2
        (names-bound a.0 f.0 f.1 ∙ sym (arrow-listed a.0 f.0 a.1)))

    text-listed : (t c : ElementValue) → settled_texts list ≡ list → Contains list t → Contains list c
        → names_container c.id t ≡ lists (listing list c) (text_entry t.id)
    text-listed t c texts there at' =
        same_bools _ _
        (λ named.
        let own : cond (keeps_container list t) t.container None ≡ t.container =
        ap (λ (x : ElementValue). x.container) (map-fixed (with_settled_container list) list t texts there) in
        let is_there = is_id-true c.id t.container (and_parts (is_text t.kind) (is_id c.id t.container) named).1 in
        let keeps : keeps_container list t ≡ true = kept (keeps_container list t) t.container c.id own is_there in
        listed-text list c t.id (is_id-true t.id (text_of list c) (sym (keeps-at list distinct c t at' named)
        ∙ keeps)))
        (λ listed.
        let is = is_id-true t.id (text_of list c) (listed-true list c (text_entry t.id) listed) in
        let found =
        list_any-found (λ u. has_id t.id u && names_container c.id u) list (text_of-stands list c t.id is) in
        let parts = and_parts (has_id t.id found.0) (names_container c.id found.0) found.2 in
        ap (names_container c.id) (one_of_id list t found.0 distinct there found.1
        ((bytes_eq-Decides t.id found.0.id).0 parts.0)) ∙ parts.1)
      where
        kept : (b : Bool) (o : Option (List ℕ)) (id : List ℕ) → cond b o None ≡ o → o ≡ Some id → b ≡ true
        kept true o id own is = refl
        kept false o id own is = let none : None ≡ Some id = own ∙ is in cc

    pub TextsAgree-settled : settled_texts list ≡ list → TextsAgree (settled_arrows list)
    TextsAgree-settled texts text container c d =
        let t = Contains-map (with_settled_links list) list text c in
        let f = Contains-map (with_settled_links list) list container d in
        subst (λ (x : ElementValue). names_container container.id x ≡ lists container.bound (text_entry x.id)) t.2
        (subst (λ (y : ElementValue). names_container y.id (with_settled_links list t.0)
        ≡ lists y.bound (text_entry t.0.id)) f.2
        (text-listed t.0 f.0 texts t.1 f.1))
