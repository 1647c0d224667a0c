-- What settling makes of one element rests on that at which it looks for it.
use Rattle.std.proofs.Common.{◌≡◌, ℕ, Bool, true, false, cond, ◌&&◌, List, [], ◌∷◌, ◌++◌, find, filter, map, Option, Some, None, Contains, bytes_eq, refl, sym, ap, ap₂, ◌∙◌, subst, inl, inr}
use Rattle.std.specs.List.{list_any}
use Rattle.std.specs.Option.{option_map, option_or}
use Rattle.std.proofs.lemmas.Bool.{and_parts, and_from, both_ways, cases_Bool, false_from_ne_true, or_left, or_right}
use Rattle.std.proofs.lemmas.Option.{same_Some}
use Rattle.std.proofs.lemmas.Slice.Eq.{bytes_eq-Decides}
use Rattle.elem.specs.declared.kind.Kind.{Kind}
use Rattle.elem.specs.declared.kind.Role.{Role}
use Rattle.elem.specs.declared.kind.Role.TheVariants.{Arrow, Text}
use Rattle.elem.specs.declared.parts.BoundRef.{BoundRef}
use Rattle.elem.specs.declared.parts.Binding.{Binding}
use Rattle.elem.specs.ElementValue.{ElementValue}
use Rattle.elem.specs.Order.{has_id, HaveDistinctIds}
use Rattle.links.specs.Arrows.{names_target, settled_end, is_bound_to, is_true_as, arrow_entries, text_entries, listing, with_settled_links}
use Rattle.links.specs.Entries.{arrow_entry, first_entries}
use Rattle.links.specs.Looks.{arrows_at, texts_in, ends_at, HaveItsContainer, HaveOneTarget, LookAlike, HasItsContainer, HasAllSeen}
use Rattle.links.specs.Names.{id_of, is_text, is_arrow, is_id, can_hold_text, can_be_bound_to, names_container, target_of, end_names, has_end_at, is_target}
use Rattle.links.specs.Settled.{settled_links}
use Rattle.links.specs.Steps.{links_to}
use Rattle.links.specs.Texts.{is_for_text, is_text_entry, text_of, is_text_of, keeps_container, with_settled_container, settled_texts}
use Rattle.links.proofs.Among.{find-among, filter-among, distinct-among}
use Rattle.links.proofs.Members.{bytes_eq-refl, filter-map, find-found, find-map, find-Some, list_any-from, list_any-found, list_any-same, map-map, one_of_id, same_bools}
use Rattle.links.proofs.Tabled.{list_any-filter, list_any-map}
use Rattle.links.proofs.TextLaws.{is_id-from, text_of-settled}

-- ---- who links to whom
pub container-named : (id : List ℕ) (e : ElementValue) → names_container id e ≡ true → links_to id e ≡ true
container-named id e h = or_left _ _ (and_parts (is_text e.kind) (is_id id e.container) h).1

pub end-named : (id : List ℕ) (e : ElementValue) → has_end_at id e ≡ true → links_to id e ≡ true
end-named id e h = or_right _ _ (and_parts (is_arrow e.kind) _ h).1

pub found-own : (xs : List ElementValue) (id : List ℕ) (x : ElementValue) → HaveDistinctIds xs → Contains xs x
    → has_id id x ≡ true → find (has_id id) xs ≡ Some x
found-own xs id x apart there own =
    let some = find-found (has_id id) xs (list_any-from (has_id id) xs x there own) in
    let found = find-Some (has_id id) xs some.0 some.1 in
    some.1
    ∙ ap Some (one_of_id xs some.0 x apart found.0 there (sym ((bytes_eq-Decides id some.0.id).0 found.1)
    ∙ (bytes_eq-Decides id x.id).0 own))

-- ---- what the ids of some elements tell
turned_and : (a b : Bool) → (a && b) ≡ (b && a)
turned_and true true = refl
turned_and true false = refl
turned_and false true = refl
turned_and false false = refl

any-of_ids : (id : List ℕ) (p : ElementValue → Bool) (es : List ElementValue)
    → list_any (λ e. has_id id e && p e) es ≡ list_any (bytes_eq id) (map id_of (filter p es))
any-of_ids id p es =
    list_any-same (λ e. has_id id e && p e) (λ e. p e && has_id id e) es (λ e there. turned_and (has_id id e) (p e))
    ∙ sym (list_any-filter p (has_id id) es) ∙ sym (list_any-map id_of (bytes_eq id) (filter p es))

abbrev first_id : List (List ℕ) → Option (List ℕ)
first_id [] = None
first_id (id ∷ ids) = Some id

first-of_ids : (p : ElementValue → Bool) (es : List ElementValue)
    → option_map id_of (find p es) ≡ first_id (map id_of (filter p es))
first-of_ids p [] = refl
first-of_ids p (e ∷ es) =
    elim (p e) as (λ b. option_map id_of (cond b (Some e) (find p es))
    ≡ first_id (map id_of (cond b (e ∷ filter p es) (filter p es)))) [ true ↦ refl | false ↦ first-of_ids p es ]

none_passes : (es : List ElementValue) → filter (λ (e : ElementValue). false) es ≡ []
none_passes [] = refl
none_passes (e ∷ es) = none_passes es

also : (b : Bool) (p : ElementValue → Bool) (es fs : List ElementValue)
    → map id_of (filter p es) ≡ map id_of (filter p fs)
    → map id_of (filter (λ e. b && p e) es) ≡ map id_of (filter (λ e. b && p e) fs)
also true p es fs same = same
also false p es fs same = ap (map id_of) (none_passes es ∙ sym (none_passes fs))

-- ---- containers
text_of-alike : (list other : List ElementValue) (c : ElementValue) → texts_in list c.id ≡ texts_in other c.id
    → text_of list c ≡ text_of other c
unfolding text_of
text_of-alike list other c same =
    ap₂ (λ l f. cond (can_hold_text c.kind) (option_or l f) None)
    (λ i. option_map (λ (x : BoundRef). x.id) (find (λ entry. entry-alike entry i) c.bound))
    (first-of_ids (names_container c.id) list ∙ ap first_id same ∙ sym (first-of_ids (names_container c.id) other))
  where
    entry-alike : (entry : BoundRef) → is_text_entry list c entry ≡ is_text_entry other c entry
    entry-alike entry =
        ap (λ b. is_for_text entry.role && b)
        (any-of_ids entry.id (names_container c.id) list ∙ ap (list_any (bytes_eq entry.id)) same
        ∙ sym (any-of_ids entry.id (names_container c.id) other))

its-turned : (list other : List ElementValue) (e : ElementValue) → HaveItsContainer list other e
    → HaveItsContainer other list e
its-turned list other e has id names =
    let one = has id names in
    record { own = sym one.own; texts = λ c is. sym (one.texts c (one.own ∙ is)) }

keeps-on : (list other : List ElementValue) (t : ElementValue) → HaveDistinctIds list → HaveItsContainer list other t
    → keeps_container list t ≡ true → keeps_container other t ≡ true
unfolding keeps_container
keeps-on list other t apart has keeps =
    let found = list_any-found (λ c. is_text_of list t.id c && names_container c.id t) list keeps in
    let c = found.0 in
    let parts = and_parts (is_text_of list t.id c) (names_container c.id t) found.2 in
    let one = has c.id parts.1 in
    let own = found-own list c.id c apart found.1 (bytes_eq-refl c.id) in
    list_any-from (λ c. is_text_of other t.id c && names_container c.id t) other c
    (find-Some (has_id c.id) other c (sym one.own ∙ own)).0
    (and_from (is_text_of other t.id c) (names_container c.id t)
    (ap (is_id t.id) (sym (text_of-alike list other c (one.texts c own))) ∙ parts.0) parts.1)

settled_text-alike : (list other : List ElementValue) (t : ElementValue) → HaveDistinctIds list → HaveDistinctIds other
    → HaveItsContainer list other t → with_settled_container list t ≡ with_settled_container other t
settled_text-alike list other t apart apart' has =
    ap (λ b. record t { container = cond b t.container None })
    (same_bools (keeps_container list t) (keeps_container other t) (keeps-on list other t apart has)
    (keeps-on other list t apart' (its-turned list other t has)))

-- what is no text keeps no container
keeps-none : (list : List ElementValue) (e : ElementValue) → is_text e.kind ≡ false → keeps_container list e ≡ false
unfolding keeps_container
keeps-none list e none = false_from_ne_true _ (λ keeps.
    let found = list_any-found (λ c. is_text_of list e.id c && names_container c.id e) list keeps in
    let parts = and_parts (is_text_of list e.id found.0) (names_container found.0.id e) found.2 in
    both_ways (is_text e.kind) none (and_parts (is_text e.kind) (is_id found.0.id e.container) parts.1).0)

-- ---- targets
of_kind : (kind : Kind) (o : Option ElementValue) → Some kind ≡ option_map (λ (e : ElementValue). e.kind) o
    → (e : ElementValue) × (o ≡ Some e) × (kind ≡ e.kind)
of_kind kind None is = cc
of_kind kind (Some e) is = (e, refl, same_Some kind e.kind is)

target-turned : (list other : List ElementValue) (id : List ℕ) → HaveOneTarget list other id
    → HaveOneTarget other list id
target-turned list other id one = record {
  kind = sym one.kind;
  text = λ e there is.
      let known = ap (option_map (λ (x : ElementValue). x.kind)) (sym there) ∙ sym one.kind in
      let x = of_kind e.kind (find (has_id id) list) known in
      let both = one.text x.0 x.1 (ap is_text (sym x.2) ∙ is) in
      let same : x.0 ≡ e = same_Some x.0 e (sym both.0 ∙ there) in
      (x.1 ∙ ap Some same, subst (HaveItsContainer other list) same (its-turned list other x.0 both.1));
}

target-on : (list other : List ElementValue) (id : List ℕ) → HaveDistinctIds list → HaveDistinctIds other
    → HaveOneTarget list other id
    → list_any (λ t. has_id id t && is_target (with_settled_container list t)) list ≡ true
    → list_any (λ t. has_id id t && is_target (with_settled_container other t)) other ≡ true
target-on list other id apart apart' one names =
    let found = list_any-found (λ t. has_id id t && is_target (with_settled_container list t)) list names in
    let t = found.0 in
    let parts = and_parts (has_id id t) (is_target (with_settled_container list t)) found.2 in
    let there = found-own list id t apart found.1 parts.0 in
    elim (cases_Bool (is_text t.kind)) [
      | inl text ↦
          let both = one.text t there text in
          let at' = find-Some (has_id id) other t both.0 in
          list_any-from (λ t. has_id id t && is_target (with_settled_container other t)) other t at'.0
          (and_from (has_id id t) (is_target (with_settled_container other t)) at'.1
          (ap is_target (sym (settled_text-alike list other t apart apart' both.1)) ∙ parts.1))
      | inr none ↦
          let x = of_kind t.kind (find (has_id id) other)
          (ap (option_map (λ (x : ElementValue). x.kind)) (sym there) ∙ one.kind) in
          let at' = find-Some (has_id id) other x.0 x.1 in
          list_any-from (λ t. has_id id t && is_target (with_settled_container other t)) other x.0 at'.0
          (and_from (has_id id x.0) (is_target (with_settled_container other x.0)) at'.1
          (bindable x.0 (ap is_text (sym x.2) ∙ none)
          (ap can_be_bound_to (sym x.2) ∙ (and_parts (can_be_bound_to t.kind) _ parts.1).0)))
    ]
  where
    bindable : (x : ElementValue) → is_text x.kind ≡ false → can_be_bound_to x.kind ≡ true
        → is_target (with_settled_container other x) ≡ true
    bindable x none can =
        ap (λ b. is_target (record x { container = cond b x.container None })) (keeps-none other x none)
        ∙ and_from (can_be_bound_to x.kind) true can refl

target-alike : (list other : List ElementValue) (id : List ℕ) → HaveDistinctIds list → HaveDistinctIds other
    → HaveOneTarget list other id
    → names_target (settled_texts list) (Some id) ≡ names_target (settled_texts other) (Some id)
target-alike list other id apart apart' one =
    list_any-map (with_settled_container list) (λ t. has_id id t && is_target t) list
    ∙ same_bools _ _ (target-on list other id apart apart' one)
    (target-on other list id apart' apart (target-turned list other id one))
    ∙ sym (list_any-map (with_settled_container other) (λ t. has_id id t && is_target t) other)

-- ---- the links of an element
module _ (list other : List ElementValue) (distinct : HaveDistinctIds list) (distinct' : HaveDistinctIds other)
    (e : ElementValue) (there : Contains list e) (also_there : Contains other e)
    (arrows : arrows_at list e.id ≡ arrows_at other e.id) (texts : texts_in list e.id ≡ texts_in other e.id)
    (container : HaveItsContainer list other e)
    (targets : (target : List ℕ) → ends_at target e ≡ true → HaveOneTarget list other target) where
  own-alike : with_settled_container list e ≡ with_settled_container other e
  own-alike = settled_text-alike list other e distinct distinct' container

  bound-alike : map id_of (filter (is_bound_to (with_settled_container list e)) list)
      ≡ map id_of (filter (is_bound_to (with_settled_container list e)) other)
  bound-alike = also (is_target (with_settled_container list e)) (has_end_at e.id) list other arrows

  entries-of : (part : List ElementValue) → arrow_entries (settled_texts part) (with_settled_container list e)
      ≡ map arrow_entry (map id_of (filter (is_bound_to (with_settled_container list e)) part))
  entries-of part =
      ap (map (λ (a : ElementValue). arrow_entry a.id)) (filter-map (is_bound_to (with_settled_container list e))
      (with_settled_container part) part)
      ∙ map-map (λ (a : ElementValue). arrow_entry a.id) (with_settled_container part)
      (filter (is_bound_to (with_settled_container list e)) part)
      ∙ sym (map-map arrow_entry id_of (filter (is_bound_to (with_settled_container list e)) part))

  arrows-alike : arrow_entries (settled_texts list) (with_settled_container list e)
      ≡ arrow_entries (settled_texts other) (with_settled_container list e)
  arrows-alike = entries-of list ∙ ap (map arrow_entry) bound-alike ∙ sym (entries-of other)

  true_arrow-of : (id : List ℕ) (part : List ElementValue)
      → is_true_as Arrow (settled_texts part) (with_settled_container list e) id
      ≡ list_any (bytes_eq id) (map id_of (filter (is_bound_to (with_settled_container list e)) part))
  true_arrow-of id part =
      list_any-map (with_settled_container part)
      (λ a. has_id id a && is_bound_to (with_settled_container list e) a) part
      ∙ any-of_ids id (is_bound_to (with_settled_container list e)) part

  text-alike : text_of (settled_texts list) (with_settled_container list e)
      ≡ text_of (settled_texts other) (with_settled_container list e)
  text-alike =
      text_of-settled list distinct e there ∙ text_of-alike list other e texts
      ∙ sym (text_of-settled other distinct' e also_there) ∙ ap (text_of (settled_texts other)) (sym own-alike)

  true-alike : (r : Role) (id : List ℕ) → is_true_as r (settled_texts list) (with_settled_container list e) id
      ≡ is_true_as r (settled_texts other) (with_settled_container list e) id
  true-alike Arrow id =
      true_arrow-of id list ∙ ap (list_any (bytes_eq id)) bound-alike ∙ sym (true_arrow-of id other)
  true-alike Text id = ap (is_id id) text-alike

  listing-alike : listing (settled_texts list) (with_settled_container list e)
      ≡ listing (settled_texts other) (with_settled_container list e)
  unfolding listing
  listing-alike = λ i.
      first_entries (filter (λ (x : BoundRef). true-alike x.role x.id i) e.bound
      ++ (arrows-alike i ++ text_entries (text-alike i)))

  end-alike : (end' : Option Binding)
      → ((target : List ℕ) → end_names target end' ≡ true → ends_at target e ≡ true)
      → settled_end (settled_texts list) end' ≡ settled_end (settled_texts other) end'
  end-alike end' named = ap (λ b. cond b end' None) (by (target_of end') refl) where
    by : (o : Option (List ℕ)) → target_of end' ≡ o
        → names_target (settled_texts list) o ≡ names_target (settled_texts other) o
    by None is = refl
    by (Some id) is =
        target-alike list other id distinct distinct' (targets id (named id (is_id-from id (target_of end') is)))

  pub links-alike : with_settled_links (settled_texts list) (with_settled_container list e)
      ≡ with_settled_links (settled_texts other) (with_settled_container other e)
  links-alike =
      (λ i. record (with_settled_container list e) {
        start_binding = end-alike e.start_binding (λ t h. or_left _ (end_names t e.end_binding) h) i;
        end_binding = end-alike e.end_binding (λ t h. or_right (end_names t e.start_binding) _ h) i;
        bound = listing-alike i;
      }) ∙ ap (with_settled_links (settled_texts other)) own-alike

-- ---- the element of an id
pub found-settled : (id : List ℕ) (part : List ElementValue) → find (has_id id) (settled_links part)
    ≡ option_map (λ e. with_settled_links (settled_texts part) (with_settled_container part e))
    (find (has_id id) part)
found-settled id part =
    find-map (has_id id) (with_settled_links (settled_texts part)) (settled_texts part)
    ∙ ap (option_map (with_settled_links (settled_texts part)))
    (find-map (has_id id) (with_settled_container part) part)
    ∙ twice (find (has_id id) part)
  where
    twice : (o : Option ElementValue) → option_map (with_settled_links (settled_texts part))
        (option_map (with_settled_container part) o)
        ≡ option_map (λ e. with_settled_links (settled_texts part) (with_settled_container part e)) o
    twice None = refl
    twice (Some e) = refl

pub looks-alike : (list other : List ElementValue) (id : List ℕ) → HaveDistinctIds list → HaveDistinctIds other
    → LookAlike list other id
    → find (has_id id) (settled_links list) ≡ find (has_id id) (settled_links other)
looks-alike list other id apart apart' look =
    found-settled id list ∙ by (find (has_id id) list) refl
    ∙ ap (option_map (λ e. with_settled_links (settled_texts other) (with_settled_container other e))) look.own
    ∙ sym (found-settled id other)
  where
    by : (o : Option ElementValue) → find (has_id id) list ≡ o
        → option_map (λ e. with_settled_links (settled_texts list) (with_settled_container list e)) o
        ≡ option_map (λ e. with_settled_links (settled_texts other) (with_settled_container other e)) o
    by None is = refl
    by (Some e) is =
        let found = find-Some (has_id id) list e is in
        let named : id ≡ e.id = (bytes_eq-Decides id e.id).0 found.1 in
        ap Some (links-alike list other apart apart' e found.0
        (find-Some (has_id id) other e (sym look.own ∙ is)).0
        (subst (λ n. arrows_at list n ≡ arrows_at other n) named (look.arrows e is))
        (subst (λ n. texts_in list n ≡ texts_in other n) named (look.texts e is))
        (look.container e is) (λ target h. look.targets e target is h))

-- ---- some of the elements
module _ (list : List ElementValue) (among : ElementValue → Bool) where
  its-among : (e : ElementValue) → HasItsContainer among list e → HaveItsContainer (filter among list) list e
  its-among e has id names =
      let same = find-among among (has_id id) list (has id names).own in
      record {
        own = same;
        texts = λ c is.
            let found = find-Some (has_id id) list c (sym same ∙ is) in
            ap (map id_of) (filter-among among (names_container id) list
            (λ t at' h. (has id names).texts c t found.0 found.1 at' h));
      }

  pub seen-alike : (id : List ℕ) → HasAllSeen among list id → LookAlike (filter among list) list id
  seen-alike id seen = record {
    own = same;
    arrows = λ e is.
        let found = find-Some (has_id id) list e (sym same ∙ is) in
        ap (map id_of) (filter-among among (has_end_at id) list
        (λ a c h. seen.namers e a found.0 found.1 c (end-named id a h)));
    texts = λ e is.
        let found = find-Some (has_id id) list e (sym same ∙ is) in
        ap (map id_of) (filter-among among (names_container id) list
        (λ t c h. seen.namers e t found.0 found.1 c (container-named id t h)));
    container = λ e is.
        let found = find-Some (has_id id) list e (sym same ∙ is) in
        its-among e (seen.container e found.0 found.1);
    targets = λ e target is ends.
        let found = find-Some (has_id id) list e (sym same ∙ is) in
        target-among e target found.0 found.1 ends;
  }
    where
      same : find (has_id id) (filter among list) ≡ find (has_id id) list
      same = find-among among (has_id id) list seen.own

      target-among : (e : ElementValue) (target : List ℕ) → Contains list e → has_id id e ≡ true
          → ends_at target e ≡ true → HaveOneTarget (filter among list) list target
      target-among e target there own ends =
          let named : (x : ElementValue) → has_id target x ≡ true → ends_at x.id e ≡ true =
          λ x is. subst (λ n. ends_at n e ≡ true) ((bytes_eq-Decides target x.id).0 is) ends in
          let one = find-among among (has_id target) list
          (λ x c is. (seen.targets e x there own c (named x is)).0) in
          record {
            kind = ap (option_map (λ (x : ElementValue). x.kind)) one;
            text = λ x is text.
                let found = find-Some (has_id target) list x (sym one ∙ is) in
                (sym one ∙ is, its-among x (seen.targets e x there own found.0 (named x found.1)).1);
          }

pub seen-alone : (list : List ElementValue) (among : ElementValue → Bool) (id : List ℕ) → HaveDistinctIds list
    → HasAllSeen among list id
    → find (has_id id) (settled_links (filter among list)) ≡ find (has_id id) (settled_links list)
seen-alone list among id distinct seen =
    looks-alike (filter among list) list id (distinct-among among list distinct) distinct
    (seen-alike list among id seen)
