-- Ids that are touched: they alone may be stored otherwise than a snapshot has them.
use Rattle.std.proofs.Common.{◌≡◌, ℕ, zero, suc, Bool, true, false, cond, take, ◌||◌, ◌⊎◌, List, [], ◌∷◌, ◌++◌, Option, Some, None, bytes_eq, nat_cmp, refl, sym, ap, ◌∙◌, inl, inr}
use Rattle.std.specs.BTreeMap.{is_at}
use Rattle.std.specs.Cmp.Lexicographic.{slice_cmp}
use Rattle.std.specs.List.{list_any}
use Rattle.std.specs.Option.{option_or}
use Rattle.std.proofs.lemmas.Bool.{cases_Bool, cond-true, cond-false, false≢true}
use Rattle.std.proofs.lemmas.Option.{none-some}
use Rattle.json_text.proofs.CallerLemmas.{bytes_eq-true}
use Rattle.frac_keys.specs.Rising.{are_rising}
use Rattle.elem.specs.ElementValue.{ElementValue}
use Rattle.elem.specs.Order.{has_id}
use Rattle.elem_store.specs.Updates.{element_of, ids_of, is_taken, takings, Taking, is_among}
use Rattle.elem_store.proofs.CallerLemmas.{same_id, same_elements, is_at-among, is_at-bytes}
use Rattle.undo_model.specs.Carrying.{with_put, with_all_put, taken, taken_all, carried, carried_over, carried_all}
use Rattle.undo_model.proofs.CallerLemmas.{put-rising}
use Rattle.snapshot.specs.inner.Carried.{carried_to, with_made}
use Rattle.snapshot.specs.Touched.{AreUntouched, StillTouches, HasTouched}
use Rattle.snapshot.specs.inner.Touched.{IsTouched, HasPutStored}
use Rattle.snapshot.proofs.CapturedLaws.{found-id, made-id}
use Rattle.snapshot.proofs.PutLaws.{put-each, put-below, put-there, all-rise, all-each}
use Rattle.snapshot.proofs.PlanLaws.{carried_over-to, made-rises, takings-more}

-- ---- one id more
neither : (b c : Bool) → cond b true c ≡ false → (b ≡ false) × (c ≡ false)
neither true c h = absurd (false≢true (sym h))
neither false c h = (refl, h)

pub touched-id : (old : List (List ℕ)) (id : List ℕ) (new : List (List ℕ))
    → ((q : List ℕ) → list_any (is_at (slice_cmp nat_cmp q)) new
    ≡ cond (is_at (slice_cmp nat_cmp id) q) true (list_any (is_at (slice_cmp nat_cmp q)) old))
    → IsTouched old id new
touched-id old id new updates = record {
  still = λ q f. (both q f).1;
  own = λ q f. (both q f).0;
  only = λ q f g.
      sym (is_at-among q new) ∙ updates q
      ∙ ap (λ own. cond own true (list_any (is_at (slice_cmp nat_cmp q)) old)) (is_at-bytes id q ∙ g)
      ∙ is_at-among q old ∙ f;
}
  where
    both : (q : List ℕ) → is_among new q ≡ false → (bytes_eq q id ≡ false) × (is_among old q ≡ false)
    both q f =
        neither (bytes_eq q id) (is_among old q)
        (ap (cond (bytes_eq q id) true) (sym (is_at-among q old))
        ∙ ap (λ own. cond own true (list_any (is_at (slice_cmp nat_cmp q)) old)) (sym (is_at-bytes id q))
        ∙ sym (updates q) ∙ is_at-among q new ∙ f)

-- ---- those of a list
none-tail : (x : ElementValue) (xs : List ElementValue) (id : List ℕ) → element_of (x ∷ xs) id ≡ None
    → (has_id id x ≡ false) × (element_of xs id ≡ None)
none-tail x xs id n = elim (cases_Bool (has_id id x)) [
  | inl t ↦ absurd (none-some x (sym n ∙ cond-true (has_id id x) (Some x) (element_of xs id) t))
  | inr f ↦ (f, sym (cond-false (has_id id x) (Some x) (element_of xs id) f) ∙ n)
]

none-push : (xs : List ElementValue) (e : ElementValue) (id : List ℕ) → element_of xs id ≡ None → has_id id e ≡ false
    → element_of (xs ++ e ∷ []) id ≡ None
none-push [] e id n f = cond-false (has_id id e) (Some e) None f
none-push (x ∷ xs) e id n f =
    let h = none-tail x xs id n in
    cond-false (has_id id x) (Some x) (element_of (xs ++ e ∷ []) id) h.0 ∙ none-push xs e id h.1 f

pub none-split : (xs : List ElementValue) (e : ElementValue) (id : List ℕ) → element_of (xs ++ e ∷ []) id ≡ None
    → (element_of xs id ≡ None) × (has_id id e ≡ false)
none-split [] e id n = (refl, (none-tail e [] id n).0)
none-split (x ∷ xs) e id n =
    let h = none-tail x (xs ++ e ∷ []) id n in
    let own = none-split xs e id h.1 in
    (cond-false (has_id id x) (Some x) (element_of xs id) h.0 ∙ own.0, own.1)

pub none-take : (count : ℕ) (xs : List ElementValue) (id : List ℕ) → element_of xs id ≡ None
    → element_of (take count xs) id ≡ None
none-take zero xs id n = refl
none-take (suc count) [] id n = refl
none-take (suc count) (x ∷ xs) id n =
    let h = none-tail x xs id n in
    cond-false (has_id id x) (Some x) (element_of (take count xs) id) h.0 ∙ none-take count xs id h.1

pub touched-none : (ids : List (List ℕ)) → HasTouched ids [] ids
touched-none ids = record { still = λ id f. f; listed = λ id f. refl; only = λ id f n. f }

pub touched-more : (old mid new : List (List ℕ)) (list : List ElementValue) (e : ElementValue) → HasTouched old list mid
    → IsTouched mid e.id new → HasTouched old (list ++ e ∷ []) new
touched-more old mid new list e h t = record {
  still = λ id f. h.still id (t.still id f);
  listed = λ id f. none-push list e id (h.listed id (t.still id f)) (t.own id f);
  only = λ id f n. let own = none-split list e id n in t.only id (h.only id f own.0) own.1;
}

-- ---- what was stored since
taken-other : (e : ElementValue) (stored : List ElementValue) (id : List ℕ) → has_id id e ≡ false
    → element_of (taken e stored) id ≡ element_of stored id
taken-other e stored id f =
    elim (is_taken stored e) as (λ b. element_of (cond b (with_put e stored) stored) id ≡ element_of stored id) [
      | true ↦ put-each e stored id ∙ cond-false (has_id id e) (Some e) (element_of stored id) f
      | false ↦ refl
    ]

all-taken-other : (list stored : List ElementValue) (id : List ℕ) → element_of list id ≡ None
    → element_of (taken_all list stored) id ≡ element_of stored id
all-taken-other [] stored id n = refl
all-taken-other (e ∷ more) stored id n =
    let h = none-tail e more id n in
    all-taken-other more (taken e stored) id h.1 ∙ taken-other e stored id h.0

made-other : (made : Option ElementValue) (e : ElementValue) (snapshot : List ElementValue) (id : List ℕ)
    → ((y : ElementValue) → Some y ≡ made → y.id ≡ e.id) → has_id id e ≡ false
    → element_of (with_made made snapshot) id ≡ element_of snapshot id
made-other None e snapshot id ids f = refl
made-other (Some y) e snapshot id ids f = put-each y snapshot id
    ∙ cond-false (has_id id y) (Some y) (element_of snapshot id) (ap (bytes_eq id) (ids y refl) ∙ f)

carried-other : (old : Option ElementValue) (e : ElementValue) (snapshot : List ElementValue) (id : List ℕ)
    → has_id id e ≡ false → element_of (carried_over old e snapshot) id ≡ element_of snapshot id
carried-other old e snapshot id f =
    let captured = element_of snapshot e.id in
    ap (λ es. element_of es id) (carried_over-to old e snapshot)
    ∙ made-other (carried_to captured old e) e snapshot id
    (λ y to. made-id captured old e y (found-id snapshot e.id captured refl) to) f

all-carried-other : (list snapshot stored : List ElementValue) (id : List ℕ) → are_rising (ids_of stored) ≡ true
    → element_of list id ≡ None → element_of (carried_all (takings stored list) snapshot) id ≡ element_of snapshot id
all-carried-other [] snapshot stored id rise n = refl
all-carried-other (e ∷ more) snapshot stored id rise n =
    let h = none-tail e more id n in
    let taking : Taking = record { before = element_of stored e.id; taken = e } in
    ap (λ ts. element_of (carried_all ts snapshot) id) (takings-more stored e more rise)
    ∙ (elim (is_taken stored e) as (λ b. element_of
    (carried_all (cond b (taking ∷ takings (with_put e stored) more) (takings stored more)) snapshot) id
    ≡ element_of snapshot id) [
      | true ↦ all-carried-other more (carried taking snapshot) (with_put e stored) id (put-rising e stored rise) h.1
          ∙ carried-other (element_of stored e.id) e snapshot id h.0
      | false ↦ all-carried-other more snapshot stored id rise h.1
    ])

pub untouched-grown : (old new : List (List ℕ)) (snapshot stored : List ElementValue) → StillTouches old new
    → AreUntouched old snapshot stored → AreUntouched new snapshot stored
untouched-grown old new snapshot stored still same id f = same id (still id f)

pub untouched-taken : (old new : List (List ℕ)) (list snapshot stored : List ElementValue) → HasTouched old list new
    → AreUntouched old snapshot stored → AreUntouched new snapshot (taken_all list stored)
untouched-taken old new list snapshot stored h same id f =
    same id (h.still id f) ∙ sym (all-taken-other list stored id (h.listed id f))

pub untouched-carried : (old new : List (List ℕ)) (list snapshot stored : List ElementValue)
    → are_rising (ids_of stored) ≡ true → HasTouched old list new → AreUntouched old snapshot stored
    → AreUntouched new (carried_all (takings stored list) snapshot) (taken_all list stored)
untouched-carried old new list snapshot stored rise h same id f =
    all-carried-other list snapshot stored id rise (h.listed id f) ∙ same id (h.still id f)
    ∙ sym (all-taken-other list stored id (h.listed id f))

-- ---- the stored elements of some ids, put over others
abbrev pub all_found : List ElementValue → List (List ℕ) → List ElementValue → List ElementValue
all_found stored [] es = es
all_found stored (id ∷ ids) es = all_found stored ids (with_made (element_of stored id) es)

found-rise : (stored : List ElementValue) (ids : List (List ℕ)) (es : List ElementValue) → are_rising (ids_of es) ≡ true
    → are_rising (ids_of (all_found stored ids es)) ≡ true
found-rise stored [] es h = h
found-rise stored (i ∷ ids) es h =
    found-rise stored ids (with_made (element_of stored i) es) (made-rises (element_of stored i) es h)

module _ (stored : List ElementValue) where
  -- one of them
  made-each : (i : List ℕ) (es : List ElementValue) (id : List ℕ) → element_of (with_made (element_of stored i) es) id
      ≡ cond (bytes_eq id i) (option_or (element_of stored id) (element_of es id)) (element_of es id)
  made-each i es id = either (element_of stored i) refl (cases_Bool (bytes_eq id i))
    where
      either : (o : Option ElementValue) → element_of stored i ≡ o → (bytes_eq id i ≡ true) ⊎ (bytes_eq id i ≡ false)
          → element_of (with_made o es) id ≡ cond (bytes_eq id i) (option_or (element_of stored id) (element_of es id))
          (element_of es id)
      either None is (inl t) = sym (cond-true (bytes_eq id i) _ _ t
          ∙ ap (λ s. option_or s (element_of es id)) (ap (element_of stored) (bytes_eq-true id i t) ∙ is))
      either None is (inr f) = sym (cond-false (bytes_eq id i) _ _ f)
      either (Some x) is (inl t) =
          put-each x es id ∙ cond-true (has_id id x) (Some x) (element_of es id)
          (ap (bytes_eq id) (found-id stored i (Some x) (sym is)) ∙ t)
          ∙ sym (cond-true (bytes_eq id i) _ _ t
          ∙ ap (λ s. option_or s (element_of es id)) (ap (element_of stored) (bytes_eq-true id i t) ∙ is))
      either (Some x) is (inr f) =
          put-each x es id ∙ cond-false (has_id id x) (Some x) (element_of es id)
          (ap (bytes_eq id) (found-id stored i (Some x) (sym is)) ∙ f)
          ∙ sym (cond-false (bytes_eq id i) _ _ f)

  twice : (a b : Bool) (s e : Option ElementValue)
      → cond a (option_or s (cond b (option_or s e) e)) (cond b (option_or s e) e) ≡ cond (b || a) (option_or s e) e
  twice true true None e = refl
  twice true true (Some x) e = refl
  twice true false s e = refl
  twice false true s e = refl
  twice false false s e = refl

  found-each : (ids : List (List ℕ)) (es : List ElementValue) (id : List ℕ)
      → element_of (all_found stored ids es) id
      ≡ cond (is_among ids id) (option_or (element_of stored id) (element_of es id)) (element_of es id)
  found-each [] es id = refl
  found-each (i ∷ ids) es id =
      found-each ids (with_made (element_of stored i) es) id
      ∙ ap (λ e. cond (is_among ids id) (option_or (element_of stored id) e) e) (made-each i es id)
      ∙ twice (is_among ids id) (bytes_eq id i) (element_of stored id) (element_of es id)

  -- what is stored of their ids
  abbrev pub AreFound : List ElementValue → Type 0
  AreFound copies = (id : List ℕ) (x : ElementValue) → element_of copies id ≡ Some x → element_of stored id ≡ Some x

  module _ (captured : List ElementValue) (captured_rise : are_rising (ids_of captured) ≡ true) where
    -- the next of the copies
    module _ (id : List ℕ) (copies new : List ElementValue) (old : Option ElementValue)
        (rise : are_rising (ids_of copies) ≡ true) (found : AreFound copies) (own : old ≡ element_of captured id) where
      module _ (e : ElementValue) (is : Some e ≡ element_of stored id) where
        named : e.id ≡ id
        named = found-id stored id (Some e) is

        there : old ≡ Some e → element_of (with_all_put copies captured) e.id ≡ Some e
        there same = all-each copies captured e.id rise ∙ joined (element_of copies e.id) refl
          where
            joined : (o : Option ElementValue) → element_of copies e.id ≡ o
                → option_or o (element_of captured e.id) ≡ Some e
            joined None has = ap (element_of captured) named ∙ sym own ∙ same
            joined (Some x) has = sym (found e.id x has) ∙ ap (element_of stored) named ∙ sym is

        still-found : new ≡ with_put e copies → AreFound new
        still-found put i x has =
            let one = sym (ap (λ es. element_of es i) put ∙ put-each e copies i) ∙ has in
            elim (cases_Bool (has_id i e)) [
              | inl t ↦ ap (element_of stored) (same_id i e t ∙ named) ∙ sym is
                  ∙ sym (cond-true (has_id i e) (Some e) (element_of copies i) t) ∙ one
              | inr f ↦ found i x (sym (cond-false (has_id i e) (Some e) (element_of copies i) f) ∙ one)
            ]

      pub found-over : (o : Option ElementValue) → o ≡ element_of stored id → HasPutStored copies old o new
          → with_all_put new captured ≡ with_made (element_of stored id) (with_all_put copies captured)
      found-over None is put =
          ap (λ es. with_all_put es captured) put ∙ ap (λ o. with_made o (with_all_put copies captured)) is
      found-over (Some e) is (inl put) = ap (λ es. with_all_put es captured) put
          ∙ put-below e copies captured rise captured_rise ∙ ap (λ o. with_made o (with_all_put copies captured)) is
      found-over (Some e) is (inr same) =
          ap (λ es. with_all_put es captured) same.0
          ∙ sym (put-there e (with_all_put copies captured) (all-rise copies captured captured_rise)
          (there e is same.1))
          ∙ ap (λ o. with_made o (with_all_put copies captured)) is

      pub found-ordered : (o : Option ElementValue) → HasPutStored copies old o new → are_rising (ids_of new) ≡ true
      found-ordered None put = ap (λ es. are_rising (ids_of es)) put ∙ rise
      found-ordered (Some e) (inl put) = ap (λ es. are_rising (ids_of es)) put ∙ put-rising e copies rise
      found-ordered (Some e) (inr same) = ap (λ es. are_rising (ids_of es)) same.0 ∙ rise

      pub found-found : (o : Option ElementValue) → o ≡ element_of stored id → HasPutStored copies old o new
          → AreFound new
      found-found None is put = λ i x has. found i x (ap (λ es. element_of es i) (sym put) ∙ has)
      found-found (Some e) is (inl put) = still-found e is put
      found-found (Some e) is (inr same) = λ i x has. found i x (ap (λ es. element_of es i) (sym same.0) ∙ has)

    or-same : (o : Option ElementValue) → option_or o o ≡ o
    or-same None = refl
    or-same (Some e) = refl

    -- all of them are all that is stored
    pub found-all : (ids : List (List ℕ)) → are_rising (ids_of stored) ≡ true → AreUntouched ids captured stored
        → all_found stored ids captured ≡ with_all_put stored captured
    found-all ids rise same =
        same_elements (all_found stored ids captured) (with_all_put stored captured)
        (found-rise stored ids captured captured_rise) (all-rise stored captured captured_rise)
        (λ id. found-each ids captured id
        ∙ (elim (cases_Bool (is_among ids id)) [
          | inl t ↦ cond-true (is_among ids id) (option_or (element_of stored id) (element_of captured id))
              (element_of captured id) t
          | inr f ↦
              cond-false (is_among ids id) (option_or (element_of stored id) (element_of captured id))
              (element_of captured id) f
              ∙ same id f ∙ sym (ap (option_or (element_of stored id)) (same id f) ∙ or-same (element_of stored id))
        ])
        ∙ sym (all-each stored captured id rise))

-- a snapshot that is what is stored
pub captured-untouched : (ids : List (List ℕ)) (snapshot stored : List ElementValue) → snapshot ≡ stored
    → AreUntouched ids snapshot stored
captured-untouched ids snapshot stored same id f = ap (λ es. element_of es id) same
