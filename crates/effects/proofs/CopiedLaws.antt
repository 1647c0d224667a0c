-- The elements at the places of some ids, one after the other, are those of these ids in their order.
use Rattle.std.proofs.Common.{◌≡◌, ℕ, zero, suc, ◌+◌, ◌-◌, ◌<◌, ◌≤◌, Bool, true, false, List, [], ◌∷◌, ◌++◌, append_assoc, Option, Some, None, IsSomeAnd, cond, Ordering, Less, Equal, Greater, is_eq, filter, slice_get, bytes_eq, nat_cmp, ◌⊎◌, inl, inr, refl, sym, ap, ap₂, ◌∙◌, subst, arith}
use Rattle.std.specs.BTreeMap.{is_at}
use Rattle.std.specs.BTreeSet.{BTreeSet, contains, Updates}
use Rattle.std.specs.Cmp.Lexicographic.{slice_cmp}
use Rattle.std.specs.List.{AllByRecursion, IsDistinct, cons_option, filter_map, list_any}
use Rattle.std.specs.List.Sorted.{IsStrictlySortedBy}
use Rattle.std.specs.Option.{option_map_or}
use Rattle.std.proofs.lemmas.Bool.{cases_Bool, false≢true, or_cases, or_left, or_right}
use Rattle.std.proofs.lemmas.Cmp.{ranked}
use Rattle.std.proofs.lemmas.Option.{none-some, same_Some}
use Rattle.json_text.proofs.CallerLemmas.{bytes_eq-same, bytes_eq-true}
use Rattle.elem.specs.ElementValue.{ElementValue}
use Rattle.elem.specs.Order.{HaveDistinctIds}
use Rattle.elem_store.specs.Places.{IsAt}
use Rattle.elem_store.specs.Updates.{is_among}
use Rattle.effects.specs.inner.Copied.{ArePlacesOf}
use Rattle.effects.proofs.ChosenLaws.{contains-among}
use Rattle.effects.proofs.PlacingLaws.{apart-at}

-- numbers rise from one on, and one of them
abbrev pub RiseFrom : ℕ → List ℕ → Type 0
RiseFrom low [] = Unit {0}
RiseFrom low (p ∷ ps) = (low ≤ p) × RiseFrom (suc p) ps

abbrev pub IsOneOf : ℕ → List ℕ → Type 0
IsOneOf n [] = ⊥
IsOneOf n (p ∷ ps) = (p ≡ n) ⊎ IsOneOf n ps

rise-lower : (low lower : ℕ) (ps : List ℕ) → lower ≤ low → RiseFrom low ps → RiseFrom lower ps
rise-lower low lower [] l rise = tt
rise-lower low lower (p ∷ ps) l rise = (omega (arith, l, rise.0), rise.1)

at-least : (low n : ℕ) (ps : List ℕ) → RiseFrom low ps → IsOneOf n ps → low ≤ n
at-least low n [] rise one = absurd one
at-least low n (p ∷ ps) rise (inl same) = omega (arith, rise.0, same)
at-least low n (p ∷ ps) rise (inr later) = let l = at-least (suc p) n ps rise.1 later in omega (arith, rise.0, l)

sorted-from : (low : ℕ) (ps : List ℕ) → AllByRecursion (λ p. low ≤ p) ps → IsStrictlySortedBy nat_cmp ps
    → RiseFrom low ps
unfolding IsStrictlySortedBy
sorted-from low [] all sorted = tt
sorted-from low (p ∷ ps) all sorted = (all.0, sorted-from (suc p) ps (above ps sorted.0) sorted.1)
  where
    above : (qs : List ℕ) → AllByRecursion (λ q. nat_cmp p q ≡ Less) qs → AllByRecursion (λ q. suc p ≤ q) qs
    above [] h = tt
    above (q ∷ qs) h = let l : p < q = ranked p q Less (sym h.0) in (omega (arith, l), above qs h.1)

pub sorted-rise : (ps : List ℕ) → IsStrictlySortedBy nat_cmp ps → RiseFrom 0 ps
sorted-rise ps sorted = sorted-from 0 ps (all ps) sorted
  where
    all : (qs : List ℕ) → AllByRecursion (λ q. 0 ≤ q) qs
    all [] = tt
    all (q ∷ qs) = (omega arith, all qs)

-- the elements behind the first one
one-less : (k p : ℕ) → suc k ≤ p → p - k ≡ suc (p - suc k)
one-less k p l = omega (arith, l)

behind : (k low : ℕ) (e : ElementValue) (es : List ElementValue) (ps : List ℕ) → suc k ≤ low → RiseFrom low ps
    → filter_map (λ p. slice_get (e ∷ es) (p - k)) ps ≡ filter_map (λ p. slice_get es (p - suc k)) ps
behind k low e es [] l rise = refl
behind k low e es (p ∷ ps) l rise =
    ap₂ cons_option (ap (slice_get (e ∷ es)) (one-less k p (omega (arith, l, rise.0))))
    (behind k (suc p) e es ps (omega (arith, l, rise.0)) rise.1)

module _ (test : ElementValue → Bool) where
  abbrev pub Passes : List ElementValue → ℕ → Type 0
  Passes es i = IsSomeAnd (slice_get es i) (λ e. test e ≡ true)

  passes-behind : (k p : ℕ) (e : ElementValue) (es : List ElementValue) → suc k ≤ p → Passes (e ∷ es) (p - k)
      → Passes es (p - suc k)
  passes-behind k p e es l h = subst (Passes (e ∷ es)) (one-less k p l) h

  -- of numbers that rise from one on, if they are those of the elements that pass
  abbrev pub IsPicked : ℕ → List ElementValue → Type 0
  IsPicked k es =
      (ps : List ℕ) → RiseFrom k ps → ((p : ℕ) → IsOneOf p ps → Passes es (p - k))
      → ((j : ℕ) (e : ElementValue) → slice_get es j ≡ Some e → test e ≡ true → IsOneOf (k + j) ps)
      → filter_map (λ p. slice_get es (p - k)) ps ≡ filter test es

  pub picked : (k : ℕ) (ps : List ℕ) (es : List ElementValue) → RiseFrom k ps
      → ((p : ℕ) → IsOneOf p ps → Passes es (p - k))
      → ((j : ℕ) (e : ElementValue) → slice_get es j ≡ Some e → test e ≡ true → IsOneOf (k + j) ps)
      → filter_map (λ p. slice_get es (p - k)) ps ≡ filter test es
  picked k [] [] rise sound complete = refl
  picked k (p ∷ ps) [] rise sound complete = absurd (sound p (inl refl))
  picked k ps (e ∷ es) rise sound complete =
      let later : IsPicked (suc k) es = λ qs up sound complete. picked (suc k) qs es up sound complete in
      elim (cases_Bool (test e)) [
        | inl passing ↦ first later passing ps rise sound (complete 0 e refl passing) complete
        | inr fails ↦
            let up = after fails ps rise sound in
            rw fails (behind k (suc k) e es ps (omega arith) up
            ∙ later ps up
            (λ p one. passes-behind k p e es (at-least (suc k) p ps up one) (sound p one))
            (λ j d is passes. subst (λ n. IsOneOf n ps) (next j) (complete (suc j) d is passes)))
      ]
    where
      next : (j : ℕ) → k + suc j ≡ suc k + j
      next j = omega arith

      after : test e ≡ false → (ps : List ℕ) → RiseFrom k ps → ((p : ℕ) → IsOneOf p ps → Passes (e ∷ es) (p - k))
          → RiseFrom (suc k) ps
      after fails [] rise sound = tt
      after fails (p ∷ ps) rise sound = (by (p - k) refl (sound p (inl refl)), rise.1)
        where
          by : (n : ℕ) → p - k ≡ n → Passes (e ∷ es) n → suc k ≤ p
          by zero is passes = absurd (false≢true (sym fails ∙ passes))
          by (suc n) is passes = omega (arith, is)

      first : IsPicked (suc k) es → test e ≡ true → (ps : List ℕ) → RiseFrom k ps
          → ((p : ℕ) → IsOneOf p ps → Passes (e ∷ es) (p - k)) → IsOneOf (k + 0) ps
          → ((j : ℕ) (d : ElementValue) → slice_get (e ∷ es) j ≡ Some d → test d ≡ true → IsOneOf (k + j) ps)
          → filter_map (λ p. slice_get (e ∷ es) (p - k)) ps ≡ filter test (e ∷ es)
      first later passing [] rise sound own complete = absurd own
      first later passing (p ∷ ps) rise sound (inr behind') complete =
          let l = at-least (suc p) (k + 0) ps rise.1 behind' in absurd (omega (arith, rise.0, l))
      first later passing (p ∷ ps) rise sound (inl same) complete =
          let none : p - k ≡ 0 = omega (arith, same) in
          let up : RiseFrom (suc k) ps = rise-lower (suc p) (suc k) ps (omega (arith, same)) rise.1 in
          rw passing (ap (λ n. cons_option (slice_get (e ∷ es) n) (filter_map (λ q. slice_get (e ∷ es) (q - k)) ps))
          none
          ∙ ap (λ rest. e ∷ rest) (behind k (suc k) e es ps (omega arith) up
          ∙ later ps up
          (λ q one. passes-behind k q e es (at-least (suc k) q ps up one) (sound q (inr one)))
          (λ j d is passes. other j (complete (suc j) d is passes))))
        where
          other : (j : ℕ) → IsOneOf (k + suc j) (p ∷ ps) → IsOneOf (suc k + j) ps
          other j (inl is) = absurd (omega (arith, same, is))
          other j (inr one) = subst (λ n. IsOneOf n ps) (next j) one

-- ---- the numbers of a set
tied : (i k : ℕ) → is_at (nat_cmp i) k ≡ true → i ≡ k
tied i k same = by (nat_cmp i k) refl same
  where
    by : (r : Ordering) → nat_cmp i k ≡ r → is_eq r ≡ true → i ≡ k
    by Less is h = absurd (false≢true h)
    by Equal is h = ranked i k Equal (sym is)
    by Greater is h = absurd (false≢true h)

tied-same : (i : ℕ) → is_at (nat_cmp i) i ≡ true
tied-same i = by (nat_cmp i i) refl
  where
    by : (r : Ordering) → nat_cmp i i ≡ r → is_at (nat_cmp i) i ≡ true
    by Less is = let l : i < i = ranked i i Less (sym is) in absurd (omega (arith, l))
    by Equal is = ap is_eq is
    by Greater is = let l : i < i = ranked i i Greater (sym is) in absurd (omega (arith, l))

one-of : (i : ℕ) (ks : List ℕ) → list_any (is_at (nat_cmp i)) ks ≡ true → IsOneOf i ks
one-of i [] h = absurd (false≢true h)
one-of i (k ∷ ks) h = elim (or_cases (is_at (nat_cmp i) k) (list_any (is_at (nat_cmp i)) ks) h) [
  | inl same ↦ inl (sym (tied i k same))
  | inr later ↦ inr (one-of i ks later)
]

of-one : (i : ℕ) (ks : List ℕ) → IsOneOf i ks → list_any (is_at (nat_cmp i)) ks ≡ true
of-one i [] one = absurd one
of-one i (k ∷ ks) (inl same) =
    or_left (is_at (nat_cmp i) k) (list_any (is_at (nat_cmp i)) ks) (ap (is_at (nat_cmp i)) same ∙ tied-same i)
of-one i (k ∷ ks) (inr later) =
    or_right (is_at (nat_cmp i) k) (list_any (is_at (nat_cmp i)) ks) (of-one i ks later)

-- ---- the places of ids
some-passes : (test : ElementValue → Bool) (o : Option ElementValue) → option_map_or test o false ≡ true
    → IsSomeAnd o (λ e. test e ≡ true)
some-passes test None h = absurd (false≢true h)
some-passes test (Some e) h = h

pub picked-places : (places : BTreeSet ℕ) (ids : BTreeSet (List ℕ)) (es : List ElementValue)
    → ArePlacesOf places ids es → IsStrictlySortedBy nat_cmp places.keys
    → filter_map (slice_get es) places.keys
    ≡ filter (λ (e : ElementValue). contains (slice_cmp nat_cmp) ids e.id) es
picked-places places ids es are sorted =
    let test = λ (e : ElementValue). contains (slice_cmp nat_cmp) ids e.id in
    ap (λ (h : ℕ → ℕ). filter_map (λ p. slice_get es (h p)) places.keys) (λ i p. less-none p i)
    ∙ picked test 0 places.keys es (sorted-rise places.keys sorted)
    (λ p one. subst (Passes test es) (less-none p)
    (some-passes test (slice_get es p) (sym (are p) ∙ of-one p places.keys one)))
    (λ j e is passes. subst (λ n. IsOneOf n places.keys) (none-more j)
    (one-of j places.keys (are j ∙ ap (λ o. option_map_or test o false) is ∙ passes)))
  where
    less-none : (p : ℕ) → p ≡ p - 0
    less-none p = omega arith

    none-more : (j : ℕ) → j ≡ 0 + j
    none-more j = omega arith

-- an id has one place
same-place : (es : List ElementValue) (i j : ℕ) (e d : ElementValue) → HaveDistinctIds es → slice_get es i ≡ Some e
    → slice_get es j ≡ Some d → e.id ≡ d.id → i ≡ j
unfolding IsDistinct
same-place [] i j e d distinct is other same = absurd (none-some e is)
same-place (x ∷ es) zero zero e d distinct is other same = refl
same-place (x ∷ es) zero (suc j) e d distinct is other same =
    absurd (false≢true (sym (apart-at x.id es j d distinct.0 other)
    ∙ ap (bytes_eq x.id) (sym same ∙ ap (λ (f : ElementValue). f.id) (sym (same_Some x e is))) ∙ bytes_eq-same x.id))
same-place (x ∷ es) (suc i) zero e d distinct is other same =
    absurd (false≢true (sym (apart-at x.id es i e distinct.0 is)
    ∙ ap (bytes_eq x.id) (same ∙ ap (λ (f : ElementValue). f.id) (sym (same_Some x d other))) ∙ bytes_eq-same x.id))
same-place (x ∷ es) (suc i) (suc j) e d distinct is other same =
    ap suc (same-place es i j e d distinct.1 is other same)

-- The ids that are left are of the set, and the numbers are the places of the other ones.
pub record HasPlaces (places : BTreeSet ℕ) (ids : BTreeSet (List ℕ)) (es : List ElementValue)
    (left : List (List ℕ)) : Type 0 where
  pub within : (id : List ℕ) → is_among left id ≡ true → contains (slice_cmp nat_cmp) ids id ≡ true
  pub sound : (i : ℕ) → contains nat_cmp places i ≡ true
      → IsSomeAnd (slice_get es i) (λ e. contains (slice_cmp nat_cmp) ids e.id ≡ true)
  pub complete : (i : ℕ) (e : ElementValue) → slice_get es i ≡ Some e → contains (slice_cmp nat_cmp) ids e.id ≡ true
      → is_among left e.id ≡ false → contains nat_cmp places i ≡ true

module _ (ids : BTreeSet (List ℕ)) (es : List ElementValue) where
  pub places-none : (places : BTreeSet ℕ) (left : List (List ℕ)) → places.keys ≡ [] → left ≡ ids.keys
      → HasPlaces places ids es left
  places-none places left empty all = record {
    within = λ id among. contains-among ids id ∙ ap (λ ks. is_among ks id) (sym all) ∙ among;
    sound = λ i h. absurd (false≢true (sym (ap (list_any (is_at (nat_cmp i))) empty) ∙ h));
    complete = λ i e is passes out. absurd (false≢true (sym out
        ∙ ap (λ ks. is_among ks e.id) all ∙ sym (contains-among ids e.id) ∙ passes));
  }

  pub places-more : (old new : BTreeSet ℕ) (left rest : List (List ℕ)) (id : List ℕ) (i : ℕ)
      → HaveDistinctIds es → HasPlaces old ids es left → left ≡ id ∷ rest → IsAt es id i
      → Updates nat_cmp old new i true → HasPlaces new ids es rest
  places-more old new left rest id i distinct has next at' updates = record {
    within = λ q among. has.within q
        (ap (λ ks. is_among ks q) next ∙ or_right (bytes_eq q id) (is_among rest q) among);
    sound = λ j h. at-either j (is_at (nat_cmp i) j) refl (sym (updates.0 j) ∙ h);
    complete = λ j e is passes out. elim (cases_Bool (bytes_eq e.id id)) [
      | inl same ↦ updates.0 j
          ∙ ap (λ b. cond b true (contains nat_cmp old j)) (ap (is_at (nat_cmp i))
          (sym (one-place (slice_get es i) refl at' j e is (bytes_eq-true e.id id same))) ∙ tied-same i)
      | inr other ↦ updates.0 j
          ∙ ap (cond (is_at (nat_cmp i) j) true) (has.complete j e is passes (ap (λ ks. is_among ks e.id) next
          ∙ rw other out)) ∙ either (is_at (nat_cmp i) j)
    ];
  }
    where
      here : contains (slice_cmp nat_cmp) ids id ≡ true
      here = has.within id (ap (λ ks. is_among ks id) next
          ∙ or_left (bytes_eq id id) (is_among rest id) (bytes_eq-same id))

      either : (b : Bool) → cond b true true ≡ true
      either true = refl
      either false = refl

      own : (o : Option ElementValue) → IsSomeAnd o (λ e. e.id ≡ id)
          → IsSomeAnd o (λ e. contains (slice_cmp nat_cmp) ids e.id ≡ true)
      own None h = h
      own (Some e) h = ap (contains (slice_cmp nat_cmp) ids) h ∙ here

      at-either : (j : ℕ) (b : Bool) → is_at (nat_cmp i) j ≡ b → cond b true (contains nat_cmp old j) ≡ true
          → IsSomeAnd (slice_get es j) (λ e. contains (slice_cmp nat_cmp) ids e.id ≡ true)
      at-either j true same h =
          subst (λ n. IsSomeAnd (slice_get es n) (λ e. contains (slice_cmp nat_cmp) ids e.id ≡ true)) (tied i j same)
          (own (slice_get es i) at')
      at-either j false other h = has.sound j h

      one-place : (o : Option ElementValue) → slice_get es i ≡ o → IsSomeAnd o (λ e. e.id ≡ id) → (j : ℕ)
          (e : ElementValue) → slice_get es j ≡ Some e → e.id ≡ id → i ≡ j
      one-place None there h j e is same = absurd h
      one-place (Some d) there h j e is same = same-place es i j d e distinct there is (h ∙ sym same)

  pub places-all : (places : BTreeSet ℕ) (left : List (List ℕ)) → HasPlaces places ids es left → left ≡ []
      → ArePlacesOf places ids es
  places-all places left has none i = by (slice_get es i) refl (contains nat_cmp places i) refl
    where
      by : (o : Option ElementValue) → slice_get es i ≡ o → (b : Bool) → contains nat_cmp places i ≡ b
          → b ≡ option_map_or (λ (e : ElementValue). contains (slice_cmp nat_cmp) ids e.id) o false
      by None is false out = refl
      by None is true there =
          absurd (subst (λ o. IsSomeAnd o (λ e. contains (slice_cmp nat_cmp) ids e.id ≡ true)) is (has.sound i there))
      by (Some e) is true there =
          sym (subst (λ o. IsSomeAnd o (λ e. contains (slice_cmp nat_cmp) ids e.id ≡ true)) is (has.sound i there))
      by (Some e) is false out = elim (cases_Bool (contains (slice_cmp nat_cmp) ids e.id)) [
        | inl passes ↦ absurd (false≢true (sym out
            ∙ has.complete i e is passes (ap (λ ks. is_among ks e.id) none)))
        | inr fails ↦ sym fails
      ]

-- ---- the copies of the elements at places, of which one is next
pub copied-more : (es : List ElementValue) (left rest : List ℕ) (i : ℕ) (list new all : List ElementValue)
    → left ≡ i ∷ rest → new ≡ list ++ cons_option (slice_get es i) []
    → list ++ filter_map (slice_get es) left ≡ all → new ++ filter_map (slice_get es) rest ≡ all
copied-more es left rest i list new all next is so_far =
    ap (λ xs. xs ++ filter_map (slice_get es) rest) is
    ∙ append_assoc list (cons_option (slice_get es i) []) (filter_map (slice_get es) rest)
    ∙ ap (λ xs. list ++ xs) (one (slice_get es i) (filter_map (slice_get es) rest))
    ∙ ap (λ ps. list ++ filter_map (slice_get es) ps) (sym next)
    ∙ so_far
  where
    one : (o : Option ElementValue) (xs : List ElementValue) → cons_option o [] ++ xs ≡ cons_option o xs
    one None xs = refl
    one (Some e) xs = refl
