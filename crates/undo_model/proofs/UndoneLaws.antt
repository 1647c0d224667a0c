-- The undone element undoes, is an element, and is the only one that does. So it is what the inverse of a part makes.
use Rattle.std.proofs.Common.{◌≡◌, ℕ, Bool, true, false, cond, ◌||◌, List, [], ◌∷◌, ◌++◌, filter, Option, Some, None, IfSome, codes, bytes_eq, IsUtf8, inl, inr, refl, sym, ap, ap₂, ◌∙◌, subst}
use Rattle.std.specs.List.{AllByRecursion, list_any}
use Rattle.std.proofs.lemmas.Bool.{cases_Bool, cond-true, cond-false, cond_both, both_ways, false_from_ne_true, or_parts}
use Rattle.std.proofs.lemmas.List.Folds.{list_any-append}
use Rattle.std.proofs.lemmas.Option.{none-some, same_Some}
use Rattle.json_text.specs.Members.{pairs}
use Rattle.json_text.specs.Value.{IsCompact}
use Rattle.json_text.specs.declared.text.Member.{Member}
use Rattle.json_text.proofs.CallerLemmas.{bytes_eq-true, bytes_eq-same}
use Rattle.frac_keys.specs.Keys.{is_key}
use Rattle.frac_keys.specs.Rising.{are_rising}
use Rattle.elem.specs.declared.kind.Kind.{Kind}
use Rattle.elem.specs.declared.kind.Kind.TheVariants.{Rectangle, Diamond, Ellipse, Arrow, Line, Freedraw, Text, Image, Frame, Magicframe, Iframe, Embeddable, Other}
use Rattle.elem.specs.declared.parts.BoundRef.{BoundRef}
use Rattle.elem.specs.ElementValue.{ElementValue}
use Rattle.elem.specs.Facts.{IsElement, IsBinding, is_header, names}
use Rattle.elem.specs.Order.{unstamped}
use Rattle.elem.specs.Said.{HasValidTexts, IsBindingText}
use Rattle.elem.specs.Texts.{truth_text, text_or_null, binding_text}
use Rattle.elem.proofs.CallerLemmas.{AllByRecursion-append, IsRising, AllByRecursion-map, list_any-each, each-list_any, names-each}
use Rattle.delta.specs.Applied.{IsApplied, KeepsStamp}
use Rattle.delta.specs.Delta.{Delta}
use Rattle.delta.specs.Headers.{own_header, header_named, value_named, scalar_at, scalar_of}
use Rattle.elem.specs.Listings.{same_listing_entry, same_listing_entry-exact, same_listing_entry-same}
use Rattle.json_text.specs.FirstOccurrences.{first_occurrences}
use Rattle.delta.specs.Joined.{are_same, joined, stays, is_gained}
use Rattle.delta.specs.Pairs.{Pair}
use Rattle.delta.specs.Parts.{PartStandsFor, scalars_same, inverse}
use Rattle.delta.specs.Rest.{made, with_value}
use Rattle.delta.specs.Undone.{undone_scalar, undone_list, Undoes, IsUndone}
use Rattle.delta.proofs.CallerLemmas.{names-inverted, inverse-twice, turned, change-inverted, scalar-turned, groups-turned, bound-turned, same-unstamped, undone-from, risen, rises, each-with_value, rising-with_value, named-with_value, not-named, undone_list-now, undone_scalar-now}
use Rattle.undo_model.specs.Differing.{same_kind}
use Rattle.undo_model.specs.Entries.{IsOfElements}
use Rattle.undo_model.specs.Undoing.{undone_header, undone_member, undone_members, undone_in, undone}
use Rattle.undo_model.proofs.DifferingLaws.{same_kind-same, same_kind-true}

over : {A B : Type 0} (f : A → B) (b : Bool) (x y : A) → f (cond b x y) ≡ cond b (f x) (f y)
over f true x y = refl
over f false x y = refl

either : {A : Type 0} (b : Bool) (x : A) → cond b x x ≡ x
either true x = refl
either false x = refl

-- ---- members of which some are undone
module _ (pair : Pair) where
  member-own : (name : List ℕ) (ms : List Member) → IsRising (pairs ms)
      → value_named name (undone_member pair name ms) ≡ undone_scalar (value_named name pair.before.rest)
      (value_named name pair.after.rest) (value_named name ms)
  member-own name ms rise =
      let was = value_named name pair.before.rest in
      let same = scalars_same was (value_named name pair.after.rest) in
      over (value_named name) same ms (with_value name was ms)
      ∙ ap (λ v. cond same (value_named name ms) v)
      (named-with_value name name was ms rise
      ∙ cond-true (bytes_eq name name) was (value_named name ms) (bytes_eq-same name))

  member-other : (n name : List ℕ) (ms : List Member) → IsRising (pairs ms) → bytes_eq n name ≡ false
      → value_named n (undone_member pair name ms) ≡ value_named n ms
  member-other n name ms rise f =
      let was = value_named name pair.before.rest in
      let same = scalars_same was (value_named name pair.after.rest) in
      over (value_named n) same ms (with_value name was ms)
      ∙ ap (λ v. cond same (value_named n ms) v) (named-with_value n name was ms rise
      ∙ cond-false (bytes_eq n name) was (value_named n ms) f)
      ∙ either same (value_named n ms)

  member-rising : (name : List ℕ) (ms : List Member) → IsRising (pairs ms)
      → IsRising (pairs (undone_member pair name ms))
  member-rising name ms rise =
      let was = value_named name pair.before.rest in
      cond_both (scalars_same was (value_named name pair.after.rest)) ms (with_value name was ms)
      (λ xs. IsRising (pairs xs)) (λ t. rise)
      (λ f. rising-with_value name was ms rise)

  pub members-rising : (ns : List (List ℕ)) (ms : List Member) → IsRising (pairs ms)
      → IsRising (pairs (undone_members pair ns ms))
  members-rising [] ms rise = rise
  members-rising (name ∷ ns) ms rise = members-rising ns (undone_member pair name ms) (member-rising name ms rise)

  -- undoing twice is undoing once
  again : (b a x : Option (List ℕ)) → undone_scalar b a (undone_scalar b a x) ≡ undone_scalar b a x
  again b a x = elim (scalars_same b a) as (λ s. cond s (cond s x b) b ≡ cond s x b) [ true ↦ refl | false ↦ refl ]

  members-value : (n : List ℕ) (ns : List (List ℕ)) (ms : List Member) → IsRising (pairs ms)
      → value_named n (undone_members pair ns ms)
      ≡ cond (list_any (bytes_eq n) ns)
      (undone_scalar (value_named n pair.before.rest) (value_named n pair.after.rest) (value_named n ms))
      (value_named n ms)
  members-value n [] ms rise = refl
  members-value n (name ∷ ns) ms rise =
      let made : Option (List ℕ) → Option (List ℕ) =
      λ x. undone_scalar (value_named n pair.before.rest) (value_named n pair.after.rest) x in
      let later = list_any (bytes_eq n) ns in
      members-value n ns (undone_member pair name ms) (member-rising name ms rise)
      ∙ (elim (cases_Bool (bytes_eq n name)) [
        | inl t ↦
            let own : value_named n (undone_member pair name ms) ≡ made (value_named n ms) =
            ap (λ k. value_named n (undone_member pair k ms)) (sym (bytes_eq-true n name t)) ∙ member-own n ms rise in
            ap (λ x. cond later (made x) x) own
            ∙ ap (λ x. cond later x (made (value_named n ms)))
            (again (value_named n pair.before.rest) (value_named n pair.after.rest) (value_named n ms))
            ∙ either later (made (value_named n ms))
            ∙ sym (ap (λ b. cond (b || later) (made (value_named n ms)) (value_named n ms)) t)
        | inr f ↦
            ap (λ x. cond later (made x) x) (member-other n name ms rise f)
            ∙ sym (ap (λ b. cond (b || later) (made (value_named n ms)) (value_named n ms)) f)
      ])

  rest-value : (n : List ℕ) (ms : List Member) → IsRising (pairs ms)
      → value_named n (undone_members pair (names pair.before.rest ++ names pair.after.rest) ms)
      ≡ undone_scalar (value_named n pair.before.rest) (value_named n pair.after.rest) (value_named n ms)
  rest-value n ms rise =
      let before = names pair.before.rest in
      let after = names pair.after.rest in
      let x = value_named n ms in
      members-value n (before ++ after) ms rise
      ∙ (elim (cases_Bool (list_any (bytes_eq n) (before ++ after))) [
        | inl t ↦ cond-true (list_any (bytes_eq n) (before ++ after))
            (undone_scalar (value_named n pair.before.rest) (value_named n pair.after.rest) x) x t
        | inr f ↦
            let neither = or_parts (list_any (bytes_eq n) before) (list_any (bytes_eq n) after)
            (sym (list_any-append (bytes_eq n) before after) ∙ f) in
            cond-false (list_any (bytes_eq n) (before ++ after))
            (undone_scalar (value_named n pair.before.rest) (value_named n pair.after.rest) x) x f
            ∙ sym (ap₂ (λ b a. undone_scalar b a x) (not-named n pair.before.rest neither.0)
            (not-named n pair.after.rest neither.1))
      ])

  -- what holds of the members before holds of those that come back
  module _ (P : Member → Type 0) (olds : AllByRecursion P pair.before.rest) where
    named-each : (name v : List ℕ) (ms : List Member) → AllByRecursion P ms → value_named name ms ≡ Some v
        → P (record { name = name; value = v })
    named-each name v [] h is = absurd (none-some v is)
    named-each name v (m ∷ ms) h is = elim (cases_Bool (bytes_eq name m.name)) [
      | inl t ↦
          let same : m.value ≡ v =
          same_Some m.value v (sym (cond-true (bytes_eq name m.name) (Some m.value) (value_named name ms) t)
          ∙ is) in
          let own = bytes_eq-true name m.name t in
          subst P (λ i. record { name = sym own i; value = same i }) h.0
      | inr f ↦ named-each name v ms h.1 (sym (cond-false (bytes_eq name m.name) (Some m.value) (value_named name ms) f)
          ∙ is)
    ]

    made-each : (name : List ℕ) (o : Option (List ℕ)) → value_named name pair.before.rest ≡ o
        → AllByRecursion P (made name o)
    made-each name None is = tt
    made-each name (Some v) is = (named-each name v pair.before.rest olds is, tt)

    pub members-each : (ns : List (List ℕ)) (ms : List Member) → AllByRecursion P ms
        → AllByRecursion P (undone_members pair ns ms)
    members-each [] ms all = all
    members-each (name ∷ ns) ms all =
        let was = value_named name pair.before.rest in
        members-each ns (undone_member pair name ms)
        (cond_both (scalars_same was (value_named name pair.after.rest)) ms (with_value name was ms) (AllByRecursion P)
        (λ t. all)
        (λ f. each-with_value P name was ms (made-each name was refl) all))

-- ---- lists that are undone item by item
module _ {T : Type 0} (P : T → Type 0) where
  filter-each : (p : T → Bool) (xs : List T) → AllByRecursion P xs → AllByRecursion P (filter p xs)
  filter-each p [] all = tt
  filter-each p (x ∷ xs) all =
      cond_both (p x) (x ∷ filter p xs) (filter p xs) (AllByRecursion P) (λ t. (all.0, filter-each p xs all.1))
      (λ f. filter-each p xs all.1)

  first-each : (same : T → T → Bool) (xs : List T) → AllByRecursion P xs → AllByRecursion P (first_occurrences same xs)
  first-each same [] all = tt
  first-each same (x ∷ xs) all = (all.0, filter-each _ (first_occurrences same xs) (first-each same xs all.1))

  joined-each : (same : T → T → Bool) (before after now : List T) → AllByRecursion P after → AllByRecursion P now
      → AllByRecursion P (joined same before after now)
  joined-each same before after now news all =
      let kept = filter (stays same before after) now in
      let gained = filter (is_gained same before now) after in
      cond_both (are_same same now before) after (kept ++ first_occurrences same gained) (AllByRecursion P) (λ t. news)
      (λ f. AllByRecursion-append P kept (first_occurrences same gained) (filter-each (stays same before after) now all)
      (first-each same gained (filter-each (is_gained same before now) after news)))

  undone_list-each : (same : T → T → Bool) (before after now : List T) → AllByRecursion P before → AllByRecursion P now
      → AllByRecursion P (undone_list same before after now)
  undone_list-each same before after now olds all =
      cond_both (are_same same before after) now (joined same after before now) (AllByRecursion P) (λ t. all)
      (λ f. joined-each same after before now olds all)

-- ---- the undone element undoes
field : {A : Type 0} (text : A → List ℕ) (before after now : A) → Some (text (undone_header text before after now))
    ≡ undone_scalar (Some (text before)) (Some (text after)) (Some (text now))
field text before after now = over (λ x. Some (text x)) (bytes_eq (text before) (text after)) now before

-- the scalar of a name in an undone element
module _ (pair : Pair) (now : ElementValue) (n : List ℕ) (rise : are_rising (names now.rest) ≡ true) where
  further : value_named n (undone_in pair now).rest ≡ undone_scalar (value_named n pair.before.rest)
      (value_named n pair.after.rest) (value_named n now.rest)
  further = rest-value pair n now.rest (risen now.rest rise)

  own-undone : (kind : Kind) → scalar_at (undone_in pair now) n (own_header kind n)
      ≡ undone_scalar (scalar_at pair.before n (own_header kind n)) (scalar_at pair.after n (own_header kind n))
      (scalar_at now n (own_header kind n))
  own-undone Text = elim (cases_Bool (bytes_eq n (codes "containerId"))) [
    | inl t ↦ rw t (field text_or_null pair.before.container pair.after.container now.container)
    | inr f ↦ rw f further
  ]
  own-undone Arrow = elim (cases_Bool (bytes_eq n (codes "startBinding"))) [
    | inl t ↦ rw t (field binding_text pair.before.start_binding pair.after.start_binding now.start_binding)
    | inr f ↦ elim (cases_Bool (bytes_eq n (codes "endBinding"))) [
      | inl t ↦ rw (f, t) (field binding_text pair.before.end_binding pair.after.end_binding now.end_binding)
      | inr g ↦ rw (f, g) further
    ]
  ]
  own-undone Image = elim (cases_Bool (bytes_eq n (codes "fileId"))) [
    | inl t ↦ rw t (field text_or_null pair.before.file pair.after.file now.file)
    | inr f ↦ rw f further
  ]
  own-undone Rectangle = further
  own-undone Diamond = further
  own-undone Ellipse = further
  own-undone Line = further
  own-undone Freedraw = further
  own-undone Frame = further
  own-undone Magicframe = further
  own-undone Iframe = further
  own-undone Embeddable = further
  own-undone (Other name) = further

  scalar-undone : (kind : Kind) → scalar_at (undone_in pair now) n (header_named kind n)
      ≡ undone_scalar (scalar_at pair.before n (header_named kind n)) (scalar_at pair.after n (header_named kind n))
      (scalar_at now n (header_named kind n))
  scalar-undone kind = elim (cases_Bool (bytes_eq n (codes "isDeleted"))) [
    | inl t ↦ rw t (field truth_text pair.before.deleted pair.after.deleted now.deleted)
    | inr f ↦ elim (cases_Bool (bytes_eq n (codes "index"))) [
      | inl t ↦ rw (f, t) (field text_or_null pair.before.index pair.after.index now.index)
      | inr g ↦ elim (cases_Bool (bytes_eq n (codes "frameId"))) [
        | inl t ↦ rw (f, g, t) (field text_or_null pair.before.frame pair.after.frame now.frame)
        | inr h ↦ rw (f, g, h) (own-undone kind)
      ]
    ]
  ]

pub undone_in-undoes : (pair : Pair) (now : ElementValue) → are_rising (names now.rest) ≡ true
    → pair.before.kind ≡ now.kind → pair.after.kind ≡ now.kind → Undoes pair.before pair.after now (undone_in pair now)
undone_in-undoes pair now rise before after = record {
  stamp = record { id = refl; kind = refl; version = refl; nonce = refl; updated = refl };
  scalars = λ n.
      scalar-undone pair now n rise now.kind
      ∙ ap₂ (λ k l. undone_scalar (scalar_at pair.before n (header_named k n))
      (scalar_at pair.after n (header_named l n)) (scalar_of now n)) (sym before) (sym after);
  groups = refl;
  bound = refl;
}

-- the undone element has the id, the kind and the stamp of the element
pub undone-stamp : (pair : Pair) (now : ElementValue) → KeepsStamp now (undone pair now)
unfolding undone
undone-stamp pair now =
    cond_both (same_kind pair.after.kind now.kind) (undone_in pair now) now (KeepsStamp now)
    (λ t. record { id = refl; kind = refl; version = refl; nonce = refl; updated = refl })
    (λ f. record { id = refl; kind = refl; version = refl; nonce = refl; updated = refl })

-- whether the kind of the element is that of the pair
undone-here : (pair : Pair) (now : ElementValue) → same_kind pair.after.kind now.kind ≡ true
    → undone pair now ≡ undone_in pair now
unfolding undone
undone-here pair now t = cond-true (same_kind pair.after.kind now.kind) (undone_in pair now) now t

undone-other : (pair : Pair) (now : ElementValue) → same_kind pair.after.kind now.kind ≡ false → undone pair now ≡ now
unfolding undone
undone-other pair now f = cond-false (same_kind pair.after.kind now.kind) (undone_in pair now) now f

-- elements are the same that are so but for their stamps, which are the same
pub restamped : (a b : ElementValue) → unstamped a ≡ unstamped b → a.version ≡ b.version → a.nonce ≡ b.nonce
    → a.updated ≡ b.updated → a ≡ b
restamped a b same version nonce updated =
    λ i. let e : ElementValue = same i in record e { version = version i; nonce = nonce i; updated = updated i }

-- ---- of elements alone
module _ (pair : Pair) (now : ElementValue) (before : IsElement pair.before) (after : IsElement pair.after)
    (isnow : IsElement now) where
  -- the undone element is an element
  in-element : pair.before.kind ≡ now.kind → IsElement (undone_in pair now)
  in-element e = record {
    named = isnow.named;
    version = isnow.version;
    nonce = isnow.nonce;
    updated = isnow.updated;
    kind = isnow.kind;
    container = cond_both (bytes_eq (text_or_null pair.before.container) (text_or_null pair.after.container))
        now.container pair.before.container (λ o. IfSome o (λ id. now.kind ≡ Text))
        (λ t. isnow.container) (λ f. subst (λ k. IfSome pair.before.container (λ id. k ≡ Text)) e before.container);
    start_binding =
        cond_both (bytes_eq (binding_text pair.before.start_binding) (binding_text pair.after.start_binding))
        now.start_binding pair.before.start_binding (λ o. IfSome o (λ binding. (now.kind ≡ Arrow) × IsBinding binding))
        (λ t. isnow.start_binding) (λ f. subst (λ k. IfSome pair.before.start_binding (λ binding. (k ≡ Arrow)
        × IsBinding binding)) e before.start_binding);
    end_binding = cond_both (bytes_eq (binding_text pair.before.end_binding) (binding_text pair.after.end_binding))
        now.end_binding pair.before.end_binding (λ o. IfSome o (λ binding. (now.kind ≡ Arrow) × IsBinding binding))
        (λ t. isnow.end_binding) (λ f. subst (λ k. IfSome pair.before.end_binding (λ binding. (k ≡ Arrow)
        × IsBinding binding)) e before.end_binding);
    file = cond_both (bytes_eq (text_or_null pair.before.file) (text_or_null pair.after.file)) now.file pair.before.file
        (λ o. IfSome o (λ id. now.kind ≡ Image))
        (λ t. isnow.file) (λ f. subst (λ k. IfSome pair.before.file (λ id. k ≡ Image)) e before.file);
    rise = rises (undone_in pair now).rest (members-rising pair (names pair.before.rest ++ names pair.after.rest)
        now.rest (risen now.rest isnow.rise));
    free =
        let test = is_header now.kind in
        list_any-each test (undone_in pair now).rest
        (members-each pair (λ m. test m.name ≡ false)
        (each-list_any test pair.before.rest (subst (λ k. list_any (is_header k) (names pair.before.rest) ≡ false) e
        before.free))
        (names pair.before.rest ++ names pair.after.rest) now.rest (each-list_any test now.rest isnow.free));
    nest = members-each pair (λ m. IsCompact 119 m.value) before.nest (names pair.before.rest ++ names pair.after.rest)
        now.rest isnow.nest;
  }

  -- what undoes is the undone element
  pub undone-only : pair.before.kind ≡ pair.after.kind → (result : ElementValue) → IsElement result
      → IsUndone pair.before pair.after now result → result ≡ undone pair now
  undone-only kind result isresult does = elim (cases_Bool (same_kind pair.after.kind now.kind)) [
    | inl t ↦
        let own = same_kind-true pair.after.kind now.kind after.kind isnow.kind t in
        let one = does.undone own in
        let other = undone_in-undoes pair now isnow.rise (kind ∙ own) own in
        restamped result (undone_in pair now)
        (same-unstamped result (undone_in pair now) isresult (in-element (kind ∙ own)) (one.stamp.kind
        ∙ sym other.stamp.kind) (λ n. one.scalars n ∙ sym (other.scalars n))
        (one.stamp.id ∙ sym other.stamp.id) (one.groups ∙ sym other.groups) (one.bound ∙ sym other.bound))
        (one.stamp.version ∙ sym other.stamp.version) (one.stamp.nonce ∙ sym other.stamp.nonce) (one.stamp.updated
        ∙ sym other.stamp.updated)
        ∙ sym (undone-here pair now t)
    | inr f ↦
        let apart : pair.after.kind ≡ now.kind
        → ⊥ = λ e. both_ways (same_kind pair.after.kind now.kind) f (ap (same_kind pair.after.kind) (sym e)
        ∙ same_kind-same pair.after.kind) in
        does.other apart ∙ sym (undone-other pair now f)
  ]

-- ---- of elements of one kind
module _ (pair : Pair) (now : ElementValue) (of : IsOfElements pair) (kind : pair.before.kind ≡ pair.after.kind)
    (isnow : IsElement now) (wnow : HasValidTexts now) where
  kinds : same_kind pair.after.kind now.kind ≡ true → pair.after.kind ≡ now.kind
  kinds t = same_kind-true pair.after.kind now.kind of.1.0.kind isnow.kind t

  -- the undone element undoes
  pub undone-undoes : IsUndone pair.before pair.after now (undone pair now)
  undone-undoes = record {
    undone = λ e.
        subst (Undoes pair.before pair.after now)
        (sym (undone-here pair now (ap (same_kind pair.after.kind) (sym e) ∙ same_kind-same pair.after.kind)))
        (undone_in-undoes pair now isnow.rise (kind ∙ e) e);
    other =
        λ apart. undone-other pair now (false_from_ne_true (same_kind pair.after.kind now.kind) (λ t. apart (kinds t)));
  }

  in-written : HasValidTexts (undone_in pair now)
  in-written = record {
    id = wnow.id;
    kind = wnow.kind;
    index = cond_both (bytes_eq (text_or_null pair.before.index) (text_or_null pair.after.index)) now.index
        pair.before.index (λ o. IfSome o (λ key. is_key key ≡ true)) (λ t. wnow.index) (λ f. of.0.1.index);
    groups = undone_list-each IsUtf8 bytes_eq pair.before.groups pair.after.groups now.groups of.0.1.groups wnow.groups;
    frame = cond_both (bytes_eq (text_or_null pair.before.frame) (text_or_null pair.after.frame)) now.frame
        pair.before.frame (λ o. IfSome o IsUtf8) (λ t. wnow.frame) (λ f. of.0.1.frame);
    bound = undone_list-each (λ (entry : BoundRef). IsUtf8 entry.id) same_listing_entry pair.before.bound
        pair.after.bound now.bound of.0.1.bound wnow.bound;
    container = cond_both (bytes_eq (text_or_null pair.before.container) (text_or_null pair.after.container))
        now.container pair.before.container (λ o. IfSome o IsUtf8) (λ t. wnow.container) (λ f. of.0.1.container);
    start_binding =
        cond_both (bytes_eq (binding_text pair.before.start_binding) (binding_text pair.after.start_binding))
        now.start_binding pair.before.start_binding (λ o. IfSome o IsBindingText) (λ t. wnow.start_binding)
        (λ f. of.0.1.start_binding);
    end_binding = cond_both (bytes_eq (binding_text pair.before.end_binding) (binding_text pair.after.end_binding))
        now.end_binding pair.before.end_binding (λ o. IfSome o IsBindingText) (λ t. wnow.end_binding)
        (λ f. of.0.1.end_binding);
    file = cond_both (bytes_eq (text_or_null pair.before.file) (text_or_null pair.after.file)) now.file pair.before.file
        (λ o. IfSome o IsUtf8) (λ t. wnow.file) (λ f. of.0.1.file);
    rest = names-each IsUtf8 (undone_in pair now).rest
        (members-each pair (λ m. IsUtf8 m.name) (AllByRecursion-map (λ (m : Member). m.name) IsUtf8 pair.before.rest
        of.0.1.rest)
        (names pair.before.rest ++ names pair.after.rest) now.rest
        (AllByRecursion-map (λ (m : Member). m.name) IsUtf8 now.rest wnow.rest));
  }

  -- it is an element
  pub undone-element : IsElement (undone pair now) × HasValidTexts (undone pair now)
  undone-element = elim (cases_Bool (same_kind pair.after.kind now.kind)) [
    | inl t ↦ subst (λ e. IsElement e × HasValidTexts e) (sym (undone-here pair now t)) (
      in-element pair now of.0.0 of.1.0 isnow (kind ∙ kinds t),
      in-written,
    )
    | inr f ↦ subst (λ e. IsElement e × HasValidTexts e) (sym (undone-other pair now f)) (isnow, wnow)
  ]

  -- it is what the inverse of the pair's part makes
  pub inverse-makes : (part : Delta) (result : ElementValue) → PartStandsFor part pair.before pair.after
      → IsElement result → IsApplied (inverse part) now result → result ≡ undone pair now
  inverse-makes part result stands isresult applied =
      undone-only pair now of.0.0 of.1.0 isnow kind result isresult
      (undone-from part pair.before pair.after of.0.0 of.1.0 stands now result isnow
      isresult applied)

  pub reverts-undone : (part : Delta) (result : ElementValue) → PartStandsFor part pair.before pair.after
      → IsElement result → KeepsStamp now result → IsApplied (inverse part) now result → result ≡ undone pair now
  reverts-undone part result stands isresult kept applied = inverse-makes part result stands isresult applied

-- ---- a change that is followed is undone the other way round
-- the inverse of a part under another id stands for its elements exchanged
inverse-stands : (part : Delta) (old new : ElementValue) → PartStandsFor part old new → old.kind ≡ new.kind
    → PartStandsFor (record (inverse part) { id = old.id }) new old
inverse-stands part old new stands kind = record {
  id = refl;
  kind = stands.kind ∙ sym kind;
  rise = ap are_rising (names-inverted part.changes) ∙ stands.rise;
  scalars = λ name scalar.
      change-inverted part.changes name ∙ ap turned (stands.scalars name scalar)
      ∙ scalar-turned name (scalar_of old name) (scalar_of new name);
  groups =
      change-inverted part.changes (codes "groupIds") ∙ ap turned stands.groups ∙ groups-turned old.groups new.groups;
  bound =
      change-inverted part.changes (codes "boundElements") ∙ ap turned stands.bound ∙ bound-turned old.bound new.bound;
}

-- the id of a part plays no part in what it makes
renamed-applied : (part : Delta) (id : List ℕ) (captured result : ElementValue) → IsApplied part captured result
    → IsApplied (record part { id = id }) captured result
renamed-applied part id captured result applied = record { changed = applied.changed; other = applied.other }

pub follows-undone : (old new captured result : ElementValue) (part : Delta) → IsElement old → IsElement new
    → IsElement captured → IsElement result → old.kind ≡ new.kind → PartStandsFor part old new
    → IsApplied part captured result → result ≡ undone (record { before = new; after = old }) captured
follows-undone old new captured result part isold isnew iscaptured isresult kind stands applied =
    let back : Delta = record (inverse part) { id = old.id } in
    let twice = subst (λ p. IsApplied p captured result) (sym (inverse-twice part)) applied in
    undone-only (record { before = new; after = old }) captured isnew isold iscaptured (sym kind) result isresult
    (undone-from back new old isnew isold (inverse-stands part old new stands kind) captured result iscaptured isresult
    (renamed-applied (inverse (inverse part)) old.id captured result twice))

-- ---- what is as after a change, but for its stamp, is undone to what is as before it, but for its stamp
-- the stamp plays no part in it
undone-unstamped : (pair : Pair) (now : ElementValue) → unstamped (undone pair now)
    ≡ unstamped (undone pair (unstamped now))
unfolding undone
undone-unstamped pair now =
    elim (same_kind pair.after.kind now.kind) as (λ b. unstamped (cond b (undone_in pair now) now)
    ≡ unstamped (cond b (undone_in pair (unstamped now)) (unstamped now))) [
      | true ↦ refl
      | false ↦ refl
    ]

module _ (pair : Pair) (of : IsOfElements pair) (id : pair.before.id ≡ pair.after.id)
    (kind : pair.before.kind ≡ pair.after.kind) where
  after-back : unstamped (undone pair pair.after) ≡ unstamped pair.before
  after-back =
      let undoes = (undone-undoes pair pair.after of kind of.1.0 of.1.1).undone refl in
      let made = undone-element pair pair.after of kind of.1.0 of.1.1 in
      same-unstamped (undone pair pair.after) pair.before made.0 of.0.0 (undoes.stamp.kind ∙ sym kind)
      (λ n. undoes.scalars n ∙ undone_scalar-now (scalar_of pair.before n) (scalar_of pair.after n))
      (undoes.stamp.id ∙ sym id)
      (undoes.groups ∙ undone_list-now bytes_eq bytes_eq-true bytes_eq-same pair.before.groups pair.after.groups)
      (undoes.bound ∙ undone_list-now same_listing_entry same_listing_entry-exact same_listing_entry-same
      pair.before.bound
      pair.after.bound)

  pub undone-back : (now : ElementValue) → unstamped now ≡ unstamped pair.after
      → unstamped (undone pair now) ≡ unstamped pair.before
  undone-back now same =
      undone-unstamped pair now ∙ ap (λ e. unstamped (undone pair e)) same ∙ sym (undone-unstamped pair pair.after)
      ∙ after-back
