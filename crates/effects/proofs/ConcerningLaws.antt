-- Each effect leaves the elements that it doesn't concern as they are.
use Rattle.std.proofs.Common.{◌≡◌, ℕ, Bool, true, false, cond, ◌&&◌, ◌||◌, List, [], ◌∷◌, ◌++◌, Option, Some, None, is_some, Result, IfOk, OnOk, Ok, Err, Contains, filter, map, take, length, get_or, bytes_eq, nat_cmp, if◌then◌else◌, ◌⊎◌, inl, inr, refl, sym, ap, ◌∙◌, subst, ◌<◌, ◌+◌}
use Rattle.std.specs.BTreeMap.{BTreeMap, get}
use Rattle.std.specs.BTreeSet.{BTreeSet, contains, Updates}
use Rattle.std.specs.Cmp.Lexicographic.{slice_cmp, nat_list_eq_equiv, texts_ties}
use Rattle.std.specs.List.{list_any}
use Rattle.std.specs.Option.{unwrap_or}
use Rattle.std.specs.Ordering.{eq_by_cmp}
use Rattle.std.proofs.lemmas.Map.Text.{is_eq-slice_cmp}
use Rattle.std.proofs.lemmas.Bool.{cases_Bool, false≢true, or_cases, or_parts, or_left, or_right, and_left, and_parts, cond-false}
use Rattle.std.proofs.lemmas.List.{take_more}
use Rattle.std.proofs.lemmas.List.Folds.{list_any-append}
use Rattle.json_text.proofs.CallerLemmas.{bytes_eq-true, bytes_eq-same, bytes_eq-flip}
use Rattle.elem.specs.declared.parts.BoundRef.{BoundRef}
use Rattle.elem.specs.declared.kind.Role.{Role}
use Rattle.elem.specs.declared.kind.Role.TheVariants as roles
use Rattle.elem.specs.ElementValue.{ElementValue}
use Rattle.elem.specs.Order.{has_id}
use Rattle.elem.specs.Listings.{same_listing_entry, same_listing_entry-same}
use Rattle.elem_store.specs.Updates.{element_of, is_among}
use Rattle.elem_store.proofs.CallerLemmas.{Contains-cons, Contains-filter, Contains-head, find-Some, member}
use Rattle.links.specs.Entries.{lists}
use Rattle.links.specs.Names.{is_id, is_arrow, is_text, target_of, end_names, has_end_at, names_container}
use Rattle.links.specs.Rows.{is_for, namer_of}
use Rattle.links.specs.Steps.{names_id}
use Rattle.links.specs.Tables.{with_listing_entry}
use Rattle.links.proofs.CallerLemmas.{list_any-from}
use Rattle.view.specs.Shown.{is_live, live_elements}
use Rattle.view.proofs.CallerLemmas.{namer-among}
use Rattle.effects.specs.declared.effect.Effect.{Effect}
use Rattle.effects.specs.declared.effect.Effect.TheVariants as effects
use Rattle.effects.specs.declared.linking.Link.{Link}
use Rattle.effects.specs.declared.linking.Label.{Label}
use Rattle.effects.specs.declared.lookup.Lookup.{Lookup}
use Rattle.effects.specs.inner.Concerning.{HasNamers, HaveLinked, IsWithin, LeavesOthers}
use Rattle.effects.specs.Deleting.{has_gone_names}
use Rattle.effects.specs.Effects.{with_group, without_group}
use Rattle.effects.specs.Linking.{listed, unlisted, with_end, with_end_of, with_container_of, with_text_of, with_text_alone, without_listing_entry}
use Rattle.effects.specs.Lookups.{IsLookup}
use Rattle.effects.specs.Naming.{is_some_that}
use Rattle.effects.specs.inner.Prepared.{made_by, settled_in}
use Rattle.effects.specs.Refusals.{is_live_id}
use Rattle.effects.specs.Settings.{with_set_member}
use Rattle.effects.proofs.ChosenLaws.{contains-among}
use Rattle.effects.proofs.DeletingLaws.{deleted_from-none}
use Rattle.effects.proofs.FindingLaws.{live-rise, live-seen, seen-as-stored}

abbrev pub Ids : Type 0
Ids = BTreeSet (List ℕ)

abbrev pub has : Ids → List ℕ → Bool
has ids id = contains (slice_cmp nat_cmp) ids id

-- what leaves the others of a set of which this holds leaves those of the result
pub leaves-from : {E : Type 0} (r : Result Ids E) (P : Ids
    → Type 0) (given effect : Effect) (stored : List ElementValue) → given ≡ effect
    → ((ids : Ids) → P ids → LeavesOthers (made_by effect) stored ids)
    → IfOk r P → IfOk r (LeavesOthers (made_by given) stored)
leaves-from (Ok ids) P given effect stored is leaves holds =
    subst (λ f. LeavesOthers (made_by f) stored ids) (sym is) (leaves ids holds)
leaves-from (Err e) P given effect stored is leaves holds = tt

pub both-ok : {E : Type 0} (r : Result Ids E) (P Q : Ids → Type 0) → IfOk r P → IfOk r Q → IfOk r (λ ids. P ids × Q ids)
both-ok (Ok ids) P Q p q = (p, q)
both-ok (Err e) P Q p q = tt

pub on_ok_both : {T E P Q R : Type 0} (r : Result T E) → (P → Q → R) → OnOk r P → OnOk r Q → OnOk r R
on_ok_both (Ok x) f p q = f p q
on_ok_both (Err e) f p q = tt

settled-other : (keys : BTreeMap (List ℕ) (Option (List ℕ))) (e : ElementValue)
    → is_some (get (slice_cmp nat_cmp) keys e.id) ≡ false → settled_in keys e ≡ e
settled-other keys e none = by (get (slice_cmp nat_cmp) keys e.id) none
  where
    by : (o : Option (Option (List ℕ))) → is_some o ≡ false → record e { index = unwrap_or o e.index } ≡ e
    by None h = refl
    by (Some key) h = absurd (false≢true (sym h))

module _ (stored : List ElementValue) (ids : Ids) where
  pub others-settle : (keys : BTreeMap (List ℕ) (Option (List ℕ)))
      → ((id : List ℕ) → has ids id ≡ is_some (get (slice_cmp nat_cmp) keys id))
      → LeavesOthers (made_by (effects.Settle keys)) stored ids
  others-settle keys are e c live out = settled-other keys e (sym (are e.id) ∙ out)

  pub others-place : (keys : BTreeMap (List ℕ) (Option (List ℕ))) (id : List ℕ) (key : Option (List ℕ))
      → ((other : List ℕ) → has ids other ≡ (bytes_eq other id || is_some (get (slice_cmp nat_cmp) keys other)))
      → LeavesOthers (made_by (effects.Place keys id key)) stored ids
  others-place keys id key are e c live out =
      let parts = or_parts (bytes_eq e.id id) (is_some (get (slice_cmp nat_cmp) keys e.id)) (sym (are e.id) ∙ out) in
      cond-false (bytes_eq id e.id) (record (settled_in keys e) { index = key }) (settled_in keys e)
      (bytes_eq-flip e.id id parts.0) ∙ settled-other keys e parts.1

  pub others-set : (id member value : List ℕ) → ((other : List ℕ) → has ids other ≡ bytes_eq other id)
      → LeavesOthers (made_by (effects.Set id member value)) stored ids
  others-set id member value are e c live out =
      cond-false (bytes_eq id e.id) (with_set_member member value e) e (bytes_eq-flip e.id id (sym (are e.id) ∙ out))

  pub others-link : (link : Link) → ((other : List ℕ) → has ids other
      ≡ (is_id other link.old || (is_id other (target_of link.binding) || bytes_eq other link.arrow)))
      → LeavesOthers (made_by (effects.Link link)) stored ids
  others-link link are e c live out =
      let first = or_parts (is_id e.id link.old) (is_id e.id (target_of link.binding) || bytes_eq e.id link.arrow)
      (sym (are e.id) ∙ out) in
      let second = or_parts (is_id e.id (target_of link.binding)) (bytes_eq e.id link.arrow) first.1 in
      let ended : with_end_of link.arrow link.side link.binding e ≡ e =
      cond-false (bytes_eq link.arrow e.id && is_arrow e.kind) (with_end link.side link.binding e) e
      (and_left (bytes_eq link.arrow e.id) (is_arrow e.kind) (bytes_eq-flip e.id link.arrow second.1)) in
      ap (λ (d : ElementValue). unlisted link.old link.entry (listed (target_of link.binding) link.entry d)) ended
      ∙ ap (unlisted link.old link.entry)
      (cond-false (is_id e.id (target_of link.binding)) (record e { bound = with_listing_entry e.bound link.entry })
      e second.0)
      ∙ cond-false (is_id e.id link.old) (record e { bound = without_listing_entry link.entry e.bound }) e first.0

  pub others-unlabel : (text : List ℕ) (old : Option (List ℕ)) (entry : BoundRef)
      → ((other : List ℕ) → has ids other ≡ (is_id other old || bytes_eq other text))
      → LeavesOthers (made_by (effects.Unlabel text old entry)) stored ids
  others-unlabel text old entry are e c live out =
      let parts = or_parts (is_id e.id old) (bytes_eq e.id text) (sym (are e.id) ∙ out) in
      ap (unlisted old entry) (cond-false (bytes_eq text e.id) (record e { container = None }) e
      (bytes_eq-flip e.id text parts.1))
      ∙ cond-false (is_id e.id old) (record e { bound = without_listing_entry entry e.bound }) e parts.0

  module _ (set : Ids) (are : (id : List ℕ) → has ids id ≡ has set id) where
    pub others-frame : (frame : Option (List ℕ)) → LeavesOthers (made_by (effects.Frame set frame)) stored ids
    others-frame frame e c live out = cond-false (has set e.id) (record e { frame = frame }) e (sym (are e.id) ∙ out)

    pub others-group : (group : List ℕ) → LeavesOthers (made_by (effects.Group set group)) stored ids
    others-group group e c live out =
        cond-false (has set e.id) (record e { groups = with_group group e.groups }) e (sym (are e.id) ∙ out)

    pub others-ungroup : (group : List ℕ) → LeavesOthers (made_by (effects.Ungroup set group)) stored ids
    others-ungroup group e c live out =
        cond-false (has set e.id) (record e { groups = without_group group e.groups }) e (sym (are e.id) ∙ out)

  -- ---- names
  -- an element of no such id doesn't name one whose namers are among the ids
  unnamed : (id : List ℕ) → HasNamers stored id ids → (e : ElementValue) → Contains stored e → is_live e ≡ true
      → has ids e.id ≡ false → names_id id e ≡ false
  unnamed id namers e c live out = elim (cases_Bool (names_id id e)) [
    | inl names ↦ absurd (false≢true (sym out ∙ namers e c live names))
    | inr not ↦ not
  ]

  pub others-label : (label : Label) → ((other : List ℕ) → has ids other ≡ false
      → (is_id other label.old || (bytes_eq other label.container || bytes_eq other label.text)) ≡ false)
      × HasNamers stored label.container ids
      → LeavesOthers (made_by (effects.Label label)) stored ids
  others-label label are e c live out =
      let first = or_parts (is_id e.id label.old) (bytes_eq e.id label.container || bytes_eq e.id label.text)
      (are.0 e.id out) in
      let second = or_parts (bytes_eq e.id label.container) (bytes_eq e.id label.text) first.1 in
      let names = unnamed label.container are.1 e c live out in
      let half = or_parts (is_id label.container e.container || is_id label.container e.frame)
      (end_names label.container e.start_binding || end_names label.container e.end_binding) names in
      let held = or_parts (is_id label.container e.container) (is_id label.container e.frame) half.0 in
      let free : with_container_of label.text label.container e ≡ e =
      cond-false (bytes_eq label.text e.id && is_text e.kind) (record e { container = Some label.container })
      (if is_id label.container e.container then record e { container = None } else e)
      (and_left (bytes_eq label.text e.id) (is_text e.kind) (bytes_eq-flip e.id label.text second.1))
      ∙ cond-false (is_id label.container e.container) (record e { container = None }) e held.0 in
      ap (λ (d : ElementValue). unlisted label.old label.entry (with_text_of label.text label.container d)) free
      ∙ ap (unlisted label.old label.entry)
      (cond-false (bytes_eq label.container e.id) (record e { bound = with_text_alone label.text e.bound }) e
      (bytes_eq-flip e.id label.container second.0))
      ∙ cond-false (is_id e.id label.old) (record e { bound = without_listing_entry label.entry e.bound }) e first.0

-- ---- what is deleted
none-gone : (is_gone : List ℕ → Bool) (name : Option (List ℕ))
    → ((id : List ℕ) → is_gone id ≡ true → is_id id name ≡ false) → is_some_that is_gone name ≡ false
none-gone is_gone None other = refl
none-gone is_gone (Some id) other = elim (cases_Bool (is_gone id)) [
  | inl gone ↦ absurd (false≢true (sym (other id gone) ∙ bytes_eq-same id))
  | inr not ↦ not
]

none-passes : (p : BoundRef → Bool) (entries : List BoundRef)
    → ((entry : BoundRef) → Contains entries entry → p entry ≡ false) → list_any p entries ≡ false
none-passes p [] none = refl
none-passes p (entry ∷ entries) none =
    rw (none entry (Contains-head entry entries))
    (none-passes p entries (λ other c. none other (Contains-cons entry entries other c)))

-- an arrow names what an end names, and a text its container
end-named : (id : List ℕ) (e : ElementValue) → has_end_at id e ≡ true → names_id id e ≡ true
end-named id e h = or_right (is_id id e.container || is_id id e.frame) (end_names id e.start_binding
    || end_names id e.end_binding) (and_parts (is_arrow e.kind) (end_names id e.start_binding
    || end_names id e.end_binding) h).1

container-named : (id : List ℕ) (e : ElementValue) → names_container id e ≡ true → names_id id e ≡ true
container-named id e h =
    or_left (is_id id e.container || is_id id e.frame) (end_names id e.start_binding || end_names id e.end_binding)
    (or_left (is_id id e.container) (is_id id e.frame) (and_parts (is_text e.kind) (is_id id e.container) h).1)

module _ (lookup : Lookup) (is : IsLookup lookup) (gone all : Ids) (deletes : (id : List ℕ) → has gone id ≡ true
    → is_live_id lookup.store.now.elements id ≡ true)
    (own : (id : List ℕ) → has all id ≡ false → (has lookup.unsettled.now id || has gone id) ≡ false)
    (linked : HaveLinked lookup.store.now.elements lookup.shown.now gone.keys all) where
  abbrev stored : List ElementValue
  stored = lookup.store.now.elements

  module _ (e : ElementValue) (c : Contains stored e) (live : is_live e ≡ true) (out : has all e.id ≡ false) where
    abbrev parts : (has lookup.unsettled.now e.id ≡ false) × (has gone e.id ≡ false)
    parts = or_parts (has lookup.unsettled.now e.id) (has gone e.id) (own e.id out)

    seen : element_of lookup.shown.now e.id ≡ Some e
    seen = seen-as-stored lookup is e c live parts.0

    -- it names none of them
    names-none : (id : List ℕ) → has gone id ≡ true → names_id id e ≡ false
    names-none id h = unnamed stored all id (linked.namers id (sym (contains-among gone id) ∙ h)) e c live out

    -- and lists none
    listed-names : (entry : BoundRef) (s : ElementValue) → Contains e.bound entry
        → element_of lookup.shown.now entry.id ≡ Some s → names_id e.id s ≡ true
    listed-names entry s among there =
        let at' = find-Some (has_id entry.id) lookup.shown.now s there in
        let here = find-Some (has_id e.id) lookup.shown.now e seen in
        by entry.role entry s (bytes_eq-true entry.id s.id at'.1) refl
        (list_any-from (same_listing_entry entry) e.bound entry among (same_listing_entry-same entry)) at'.0 here.0
      where
        by : (role : Role) (entry : BoundRef) (s : ElementValue) → entry.id ≡ s.id → entry.role ≡ role
            → lists e.bound entry ≡ true → Contains lookup.shown.now s → Contains lookup.shown.now e
            → names_id e.id s ≡ true
        by roles.Arrow entry s same role' there cs ce =
            end-named e.id s (is.settled.arrows s e cs ce
            ∙ subst (λ (o : BoundRef). lists e.bound o ≡ true) (λ i. record { id = same i; role = role' i }) there)
        by roles.Text entry s same role' there cs ce =
            container-named e.id s (is.settled.texts s e cs ce
            ∙ subst (λ (o : BoundRef). lists e.bound o ≡ true) (λ i. record { id = same i; role = role' i }) there)

    lists-none : (entry : BoundRef) → Contains e.bound entry → has gone entry.id ≡ false
    lists-none entry among = elim (cases_Bool (has gone entry.id)) [
      | inl h ↦
          let s = live-seen lookup is entry.id (deletes entry.id h) in
          absurd (false≢true (sym out ∙ linked.named entry.id e.id s.0 (sym (contains-among gone entry.id)
          ∙ h) s.1 (listed-names entry s.0 among s.1)))
      | inr not ↦ not
    ]

    half : (id : List ℕ) → has gone id ≡ true → ((is_id id e.container || is_id id e.frame) ≡ false)
        × ((end_names id e.start_binding || end_names id e.end_binding) ≡ false)
    half id h = or_parts (is_id id e.container || is_id id e.frame) (end_names id e.start_binding
        || end_names id e.end_binding) (names-none id h)

    no-gone-names : has_gone_names (has gone) e ≡ false
    no-gone-names =
        rw (
          none-gone (has gone) e.frame (λ id h. (or_parts (is_id id e.container) (is_id id e.frame) (half id h).0).1),
          none-gone (has gone) e.container (λ id h.
              (or_parts (is_id id e.container) (is_id id e.frame) (half id h).0).0),
          none-gone (has gone) (target_of e.start_binding)
              (λ id h. (or_parts (end_names id e.start_binding) (end_names id e.end_binding) (half id h).1).0),
          none-gone (has gone) (target_of e.end_binding)
              (λ id h. (or_parts (end_names id e.start_binding) (end_names id e.end_binding) (half id h).1).1),
        )
        (none-passes (λ (entry : BoundRef). has gone entry.id) e.bound lists-none)

    pub deleted-others : made_by (effects.Delete gone) e ≡ e
    deleted-others = sym (deleted_from-none (has gone) e parts.1 no-gone-names)

-- ---- the ids of a set
-- what isn't in a set isn't in one within it
pub within-not : (ids others : Ids) (id : List ℕ) → IsWithin ids others → has others id ≡ false → has ids id ≡ false
within-not ids others id within out = elim (cases_Bool (has ids id)) [
  | inl there ↦ absurd (false≢true (sym out ∙ within id there))
  | inr not ↦ not
]

-- who names the elements of ids and is named by them: of none, of one, and of one more
pub linked-none : (elements shown : List ElementValue) (all : Ids) → HaveLinked elements shown [] all
linked-none elements shown all = record {
  namers = λ id among. absurd (false≢true among);
  named = λ id other e among. absurd (false≢true among);
}

pub linked-one : (elements shown : List ElementValue) (id : List ℕ) (mid new : Ids) → HasNamers elements id mid
    → IsWithin mid new → ((e : ElementValue) (other : List ℕ) → element_of shown id ≡ Some e → names_id other e ≡ true
    → has new other ≡ true)
    → HaveLinked elements shown (id ∷ []) new
linked-one elements shown id mid new namers within named = record {
  namers =
      λ k among e c live names. within e.id (namers e c live (ap (λ n. names_id n e) (sym (one_only k among)) ∙ names));
  named = λ k other e among there names. named e other (ap (element_of shown) (sym (one_only k among)) ∙ there) names;
}
  where
    one_only : (k : List ℕ) → is_among (id ∷ []) k ≡ true → k ≡ id
    one_only k h = bytes_eq-true k id (by (bytes_eq k id) h)
      where
        by : (b : Bool) → (b || false) ≡ true → b ≡ true
        by true h = refl
        by false h = h

pub linked-cons : (elements shown : List ElementValue) (id : List ℕ) (ids : List (List ℕ)) (mid new : Ids)
    → HaveLinked elements shown (id ∷ []) mid → IsWithin mid new → HaveLinked elements shown ids new
    → HaveLinked elements shown (id ∷ ids) new
linked-cons elements shown id ids mid new first within later = record {
  namers = λ k among e c live names. elim (either k among) [
    | inl f ↦ within e.id (first.namers k f e c live names)
    | inr l ↦ later.namers k l e c live names
  ];
  named = λ k other e among there names. elim (either k among) [
    | inl f ↦ within other (first.named k other e f there names)
    | inr l ↦ later.named k other e l there names
  ];
}
  where
    either : (k : List ℕ) → is_among (id ∷ ids) k ≡ true → (is_among (id ∷ []) k ≡ true) ⊎ (is_among ids k ≡ true)
    either k among = elim (or_cases (bytes_eq k id) (is_among ids k) among) [
      | inl own ↦ inl (or_left (bytes_eq k id) false own)
      | inr l ↦ inr l
    ]

-- one id that is added
pub added-one : (old new : Ids) (id copy : List ℕ) → copy ≡ id → Updates (slice_cmp nat_cmp) old new copy true
    → (other : List ℕ) → has new other ≡ (bytes_eq other id || has old other)
added-one old new id copy is updates other =
    updates.0 other
    ∙ ap (λ b. cond b true (has old other)) (sym (texts_ties copy other) ∙ nat_list_eq_equiv.symm copy other
    ∙ ap (bytes_eq other) is)
    ∙ cond-or (bytes_eq other id) (has old other)
  where
    cond-or : (a b : Bool) → cond a true b ≡ (a || b)
    cond-or true b = refl
    cond-or false b = refl

-- the ids of a set that are left, and one of them that is added
pub added-left : (own there rest all : Bool) → (there || (own || rest)) ≡ all → ((own || there) || rest) ≡ all
added-left true true rest all h = h
added-left true false rest all h = h
added-left false there rest all h = h

pub added-all : (there all : Bool) → (there || false) ≡ all → there ≡ all
added-all true all h = h
added-all false all h = h

-- one more id
pub added-more : (X : Type 0) (p : X → Bool) (xs : List X) (i : ℕ) (x : X) (old mid new : Bool) → i < length xs
    → x ≡ get_or xs i x → mid ≡ (list_any p (take i xs) || old) → new ≡ (p x || mid)
    → new ≡ (list_any p (take (i + 1) xs) || old)
added-more X p xs i x old mid new within there before more =
    more ∙ ap (λ m. p x || m) before ∙ turned (p x) (list_any p (take i xs)) old
    ∙ ap (λ b. b || old) (sym (list_any-append p (take i xs) (x ∷ []))
    ∙ ap (list_any p) (sym (take_more xs i x within ∙ ap (λ y. take i xs ++ y ∷ []) (sym there))))
  where
    turned : (a b c : Bool) → (a || (b || c)) ≡ ((b || (a || false)) || c)
    turned true true c = refl
    turned true false c = refl
    turned false true c = refl
    turned false false c = refl

-- the ids with keys are those of the map
pub keyed-left : (new : Ids) (ids left : List (List ℕ)) (found : List ℕ → Bool) → new.keys ≡ [] → left ≡ ids
    → ((id : List ℕ) → found id ≡ list_any (eq_by_cmp (slice_cmp nat_cmp) id) ids) → (id : List ℕ)
    → (has new id || is_among left id) ≡ found id
keyed-left new ids left found empty is are id =
    ap (λ b. b || is_among left id) (contains-among new id ∙ ap (λ ks. is_among ks id) empty)
    ∙ ap (λ ks. is_among ks id) is
    ∙ sym (are id ∙ ap (λ (h : List ℕ → Bool). list_any h ids) (λ i k. is_eq-slice_cmp id k i))

-- who names an id is among the namers of the table
-- the set has the namers of an id, once those of the table are added
pub namers-added : (lookup : Lookup) (is : IsLookup lookup) (id : List ℕ) (namers : List (List ℕ)) (mid new : Ids)
    → namers ≡ map namer_of (filter (is_for id) lookup.names.now.rows)
    → ((other : List ℕ) → has new other ≡ (is_among namers other || has mid other))
    → HasNamers lookup.store.now.elements id new
namers-added lookup is id namers mid new exact are e c live names =
    are e.id
    ∙ or_left (is_among namers e.id) (has mid e.id)
    (ap (λ (l : List (List ℕ)). is_among l e.id) exact
    ∙ namer-among (live_elements lookup.store.now.elements) lookup.names.now.rows id e (live-rise lookup is) is.table
    (Contains-filter is_live lookup.store.now.elements e c live) names)
