-- What is stored of some ids, and after changes, one more each time.
use Rattle.std.proofs.Common.{◌≡◌, ℕ, zero, suc, ◌+◌, ◌<◌, Bool, true, false, cond, ◌&&◌, ◌||◌, List, [], ◌∷◌, ◌++◌, length, take, get_or, IfSome, IsSome, Option, Some, None, is_some, bytes_eq, refl, sym, ap, ap₂, ◌∙◌, subst, inl, inr}
use Rattle.std.specs.List.{AllByRecursion, IsDistinct, list_all}
use Rattle.std.specs.Option.{option_or}
use Rattle.std.proofs.lemmas.Bool.{cases_Bool, or_cases, both_ways, false_from_ne_true}
use Rattle.std.proofs.lemmas.List.{take_more}
use Rattle.std.proofs.lemmas.List.Elements.{All-contains}
use Rattle.std.proofs.lemmas.List.Folds.{list_any-append}
use Rattle.std.proofs.lemmas.List.Sums.{AllPass-from_list_all}
use Rattle.std.proofs.lemmas.Slice.Eq.{bytes_eq-Decides}
use Rattle.frac_keys.specs.Rising.{are_rising}
use Rattle.elem.specs.ElementValue.{ElementValue}
use Rattle.elem.specs.Order.{has_id, HaveDistinctIds}
use Rattle.elem_store.specs.Updates.{element_of, ids_of, is_newer, is_taken, HasTaken, is_among}
use Rattle.elem_store.proofs.CallerLemmas.{same_id, of_same, find-Some}
use Rattle.elem_store.proofs.CallerLemmas as rows
use Rattle.undo_model.specs.Carrying.{taken, taken_all}
use Rattle.undo_model.proofs.CallerLemmas.{taken-has, taken_all-rising}
use Rattle.view.specs.Shown.{is_live, live_elements}
use Rattle.view.proofs.CallerLemmas.{HaveDistinctIds-rising, live_elements-rise}
use Rattle.kept_view.specs.Changes.{AreSameButAt}
use Rattle.kept_view.specs.inner.Following.{followed, ArePicked, AreTaken, HaveFollowed}
use Rattle.kept_view.specs.inner.Replacing.{element_after, HaveReplaced}
use Rattle.kept_view.proofs.Followed.{if_live, live-is, element-live}

-- ---- what is picked, one id more
or-none : (a : Bool) → (a || false) ≡ a
or-none true = refl
or-none false = refl

among-more : (ids : List (List ℕ)) (i : ℕ) (id : List ℕ) → i < length ids → id ≡ get_or ids i id → (x : List ℕ)
    → is_among (take (i + 1) ids) x ≡ (is_among (take i ids) x || bytes_eq x id)
among-more ids i id within there x =
    ap (λ xs. is_among xs x) (take_more ids i id within ∙ ap (λ y. take i ids ++ y ∷ []) (sym there))
    ∙ list_any-append (bytes_eq x) (take i ids) (id ∷ [])
    ∙ ap (λ b. is_among (take i ids) x || b) (or-none (bytes_eq x id))

pub picked-more : (stored : List ElementValue) (ids : List (List ℕ)) (i : ℕ) (id : List ℕ) → i < length ids
    → id ≡ get_or ids i id → (news after : List ElementValue) (e : ElementValue)
    → ArePicked stored (take i ids) news → element_of stored id ≡ Some e → HasTaken news e after
    → ArePicked stored (take (i + 1) ids) after
picked-more stored ids i id within there news after e so_far found has = record {
  ordered = has.ordered;
  each = λ x. has.each x ∙ by x (has_id x e) refl
      ∙ sym (ap (λ b. cond b (element_of stored x) None) (among-more ids i id within there x));
  there =
      λ x h. elim (or_cases (is_among (take i ids) x) (bytes_eq x id) (sym (among-more ids i id within there x) ∙ h)) [
        | inl before ↦ so_far.there x before
        | inr own ↦ ap (λ o. is_some o) (ap (element_of stored) ((bytes_eq-Decides x id).0 own) ∙ found)
      ];
}
  where
    named : id ≡ e.id
    named = same_id id e (find-Some (has_id id) stored e found).1

    -- where it isn't taken, it was there
    stays : (x : List ℕ) → x ≡ id → is_taken news e ≡ false → element_of news x ≡ Some e
    stays x same not = from (is_among (take i ids) id) refl where
      from : (b : Bool) → is_among (take i ids) id ≡ b → element_of news x ≡ Some e
      from true is =
          ap (element_of news) same ∙ so_far.each id ∙ ap (λ b. cond b (element_of stored id) None) is ∙ found
      from false is =
          let none : element_of news e.id ≡ None =
          ap (element_of news) (sym named) ∙ so_far.each id ∙ ap (λ b. cond b (element_of stored id) None) is in
          let takes : is_taken news e ≡ true = ap (is_newer e) none in
          cc

    by : (x : List ℕ) (b : Bool) → has_id x e ≡ b → cond (has_id x e && is_taken news e) (Some e) (element_of news x)
        ≡ cond (is_among (take i ids) x || bytes_eq x id) (element_of stored x) None
    by x true own =
        let same : x ≡ id = same_id x e own ∙ sym named in
        let right : cond (is_among (take i ids) x || bytes_eq x id) (element_of stored x) None ≡ Some e =
        ap (λ b. cond (is_among (take i ids) x || b) (element_of stored x) None) ((bytes_eq-Decides x id).1 same)
        ∙ always (is_among (take i ids) x) (element_of stored x) ∙ ap (element_of stored) same ∙ found in
        elim (cases_Bool (is_taken news e)) [
          | inl takes ↦ rw (own, takes) (sym right)
          | inr not ↦ rw (own, not) (stays x same not ∙ sym right)
        ]
      where
        always : (a : Bool) (o : Option ElementValue) → cond (a || true) o None ≡ o
        always true o = refl
        always false o = refl
    by x false other =
        let apart : bytes_eq x id ≡ false = ap (bytes_eq x) named ∙ other in
        ap (λ b. cond (b && is_taken news e) (Some e) (element_of news x)) other ∙ so_far.each x
        ∙ sym (ap (λ b. cond (is_among (take i ids) x || b) (element_of stored x) None) apart
        ∙ ap (λ b. cond b (element_of stored x) None) (or-none (is_among (take i ids) x)))

-- ---- what is taken, one element more

pub taken_all-push : (changed stored : List ElementValue) (e : ElementValue)
    → taken_all (changed ++ e ∷ []) stored ≡ taken e (taken_all changed stored)
taken_all-push [] stored e = refl
taken_all-push (f ∷ changed) stored e = taken_all-push changed (taken f stored) e

pub taken-more : (stored changed : List ElementValue) (i : ℕ) (e : ElementValue) → are_rising (ids_of stored) ≡ true
    → i < length changed → e ≡ get_or changed i e → (news begun after : List ElementValue)
    → ((id : List ℕ) → element_of (taken_all (take i changed) stored) id ≡ element_after stored news id)
    → ((id : List ℕ) → element_after stored begun id ≡ element_after stored news id)
    → element_of begun e.id ≡ element_after stored news e.id
    → HasTaken begun e after → (id : List ℕ) → element_of (taken_all (take (i + 1) changed) stored) id
    ≡ element_after stored after id
taken-more stored changed i e rising within there news begun after so_far same known has id =
    let done = taken_all (take i changed) stored in
    ap (λ xs. element_of (taken_all xs stored) id) (take_more changed i e within
    ∙ ap (λ (f : ElementValue). take i changed ++ f ∷ []) (sym there))
    ∙ ap (λ xs. element_of xs id) (taken_all-push (take i changed) stored e)
    ∙ (taken-has done e (taken_all-rising stored (take i changed) rising)).each id
    ∙ ap₂ (λ t o. cond (has_id id e && t) (Some e) o) (ap (is_newer e) (so_far e.id ∙ sym known)) (so_far id
    ∙ sym (same id))
    ∙ by (has_id id e && is_taken begun e)
    ∙ sym (ap (λ o. option_or o (element_of stored id)) (has.each id))
  where
    by : (b : Bool) → cond b (Some e) (element_after stored begun id)
        ≡ option_or (cond b (Some e) (element_of begun id)) (element_of stored id)
    by true = refl
    by false = refl

-- ---- a store begins with what is stored of an id
pub begun : (stored news after : List ElementValue) (id : List ℕ) (e : ElementValue) → element_of news id ≡ None
    → element_of stored id ≡ Some e → HasTaken news e after
    → ((other : List ℕ) → element_after stored after other ≡ element_after stored news other)
    × (element_of after id ≡ element_after stored news id)
begun stored news after id e none found has = (each, own) where
  named : id ≡ e.id
  named = same_id id e (find-Some (has_id id) stored e found).1

  takes : is_taken news e ≡ true
  takes = ap (is_newer e) (ap (element_of news) (sym named) ∙ none)

  own : element_of after id ≡ element_after stored news id
  own =
      has.each id ∙ ap₂ (λ b t. cond (b && t) (Some e) (element_of news id)) (of_same id e named) takes
      ∙ sym (ap (λ o. option_or o (element_of stored id)) none ∙ found)

  each : (other : List ℕ) → element_after stored after other ≡ element_after stored news other
  each other = elim (cases_Bool (has_id other e)) [
    | inl is ↦
        let same : other ≡ id = same_id other e is ∙ sym named in
        ap (element_after stored after) same ∙ ap (λ o. option_or o (element_of stored id)) own
        ∙ twice (element_of news id) (element_of stored id) ∙ sym (ap (element_after stored news) same)
    | inr not ↦ ap (λ o. option_or o (element_of stored other)) (has.each other
        ∙ ap (λ b. cond (b && is_taken news e) (Some e) (element_of news other)) not)
  ]
    where
      twice : (o s : Option ElementValue) → option_or (option_or o s) s ≡ option_or o s
      twice (Some e) s = refl
      twice None None = refl
      twice None (Some e) = refl

-- ---- lists in which no id stands twice
apart-taken : (id : List ℕ) (es : List ElementValue) (n : ℕ)
    → AllByRecursion (λ other. bytes_eq id other ≡ false) (ids_of es)
    → AllByRecursion (λ other. bytes_eq id other ≡ false) (ids_of (take n es))
apart-taken id es zero all = tt
apart-taken id [] (suc n) all = tt
apart-taken id (e ∷ es) (suc n) all = (all.0, apart-taken id es n all.1)

distinct-taken : (es : List ElementValue) (n : ℕ) → HaveDistinctIds es → HaveDistinctIds (take n es)
unfolding IsDistinct
distinct-taken es zero apart = tt
distinct-taken [] (suc n) apart = tt
distinct-taken (e ∷ es) (suc n) apart = (apart-taken e.id es n apart.0, distinct-taken es n apart.1)

none-before : (es : List ElementValue) (e : ElementValue) (fs : List ElementValue) → HaveDistinctIds (es ++ e ∷ fs)
    → element_of es e.id ≡ None
unfolding IsDistinct
none-before [] e fs apart = refl
none-before (x ∷ es) e fs apart =
    let off : bytes_eq x.id e.id ≡ false = later x.id es apart.0 in
    let turned : bytes_eq e.id x.id ≡ false =
    false_from_ne_true (bytes_eq e.id x.id)
    (λ is. both_ways (bytes_eq x.id e.id) off
    ((bytes_eq-Decides x.id e.id).1 (sym ((bytes_eq-Decides e.id x.id).0 is)))) in
    ap (λ b. cond b (Some x) (element_of es e.id)) turned ∙ none-before es e fs apart.1
  where
    later : (id : List ℕ) (xs : List ElementValue)
        → AllByRecursion (λ other. bytes_eq id other ≡ false) (ids_of (xs ++ e ∷ fs)) → bytes_eq id e.id ≡ false
    later id [] all = all.0
    later id (y ∷ xs) all = later id xs all.1

-- ---- what is followed
pub followed-is : (live news after stored : List ElementValue) → are_rising (ids_of stored) ≡ true
    → HaveFollowed live news after
    → ((id : List ℕ) → followed (element_of news id) (element_of live id) ≡ if_live (element_of stored id))
    → after ≡ live_elements stored
followed-is live news after stored rising has each =
    rows.same_elements after (live_elements stored) has.ordered (live_elements-rise stored rising)
    (λ id. has.each id ∙ each id ∙ sym (element-live None stored id rising))

followed-live : (n s : Option ElementValue) → followed n (if_live s) ≡ if_live (option_or n s)
followed-live None s = refl
followed-live (Some e) s = refl

pub taken-followed : (stored changed live news after : List ElementValue) → are_rising (ids_of stored) ≡ true
    → live ≡ live_elements stored
    → AreTaken stored changed news → HaveFollowed live news after → after ≡ live_elements (taken_all changed stored)
taken-followed stored changed live news after rising is taken has =
    followed-is live news after (taken_all changed stored) (taken_all-rising stored changed rising) has
    (λ id. ap (λ es. followed (element_of news id) (element_of es id)) is
    ∙ ap (followed (element_of news id)) (element-live None stored id rising)
    ∙ followed-live (element_of news id) (element_of stored id) ∙ ap if_live (sym (taken.each id)))

pub updated-followed : (stored live news after : List ElementValue) (ids : List (List ℕ))
    → are_rising (ids_of stored) ≡ true → AreSameButAt ids live (live_elements stored)
    → ArePicked stored ids news → HaveFollowed live news after → after ≡ live_elements stored
updated-followed stored live news after ids rising same picked has =
    followed-is live news after stored rising has (λ id. by id (is_among ids id) refl)
  where
    there : (o l : Option ElementValue) → is_some o ≡ true → followed o l ≡ if_live o
    there None l some = cc
    there (Some e) l some = refl

    by : (id : List ℕ) (b : Bool) → is_among ids id ≡ b → followed (element_of news id) (element_of live id)
        ≡ if_live (element_of stored id)
    by id true is =
        ap (λ o. followed o (element_of live id)) (picked.each id ∙ ap (λ b. cond b (element_of stored id) None) is)
        ∙ there (element_of stored id) (element_of live id) (picked.there id is)
    by id false is =
        ap (λ o. followed o (element_of live id)) (picked.each id ∙ ap (λ b. cond b (element_of stored id) None) is)
        ∙ same id is ∙ element-live None stored id rising

-- ---- each way of following
pub replaced-followed : (live news after : List ElementValue) → list_all is_live news ≡ true
    → HaveReplaced live news after → HaveFollowed live news after
replaced-followed live news after all replaced =
    record { ordered = replaced.ordered; each = λ id. replaced.each id ∙ by id (element_of news id) refl } where
      by : (id : List ℕ) (o : Option ElementValue) → element_of news id ≡ o
          → option_or o (element_of live id) ≡ followed o (element_of live id)
      by id None is = refl
      by id (Some e) is =
          sym (live-is e (All-contains (λ x. is_live x ≡ true) news e (AllPass-from_list_all is_live news all)
          (find-Some (has_id id) news e is).0))

-- what is followed is told by the elements alone
pub same-followed : (live news after other : List ElementValue) → HaveFollowed live news after
    → HaveFollowed live news other → after ≡ other
same-followed live news after other has also =
    rows.same_elements after other has.ordered also.ordered (λ id. has.each id ∙ sym (also.each id))

element-append : (es fs : List ElementValue) (id : List ℕ)
    → element_of (es ++ fs) id ≡ option_or (element_of es id) (element_of fs id)
element-append [] fs id = refl
element-append (e ∷ es) fs id = elim (has_id id e) as (λ b. cond b (Some e) (element_of (es ++ fs) id)
    ≡ option_or (cond b (Some e) (element_of es id)) (element_of fs id)) [
      | true ↦ refl
      | false ↦ element-append es fs id
    ]

pub followed-more : (live mid after news : List ElementValue) (i : ℕ) (e : ElementValue)
    → are_rising (ids_of news) ≡ true → i < length news → e ≡ get_or news i e
    → HaveFollowed live (take i news) mid → HaveFollowed mid (e ∷ []) after
    → HaveFollowed live (take (i + 1) news) after
followed-more live mid after news i e rising within there so_far one =
    record { ordered = one.ordered; each = each } where
      more : take (i + 1) news ≡ take i news ++ e ∷ []
      more = take_more news i e within ∙ ap (λ (f : ElementValue). take i news ++ f ∷ []) (sym there)

      apart : HaveDistinctIds (take i news ++ e ∷ [])
      apart = subst HaveDistinctIds more (distinct-taken news (i + 1) (HaveDistinctIds-rising news rising))

      fresh : element_of (take i news) e.id ≡ None
      fresh = none-before (take i news) e [] apart

      each : (id : List ℕ) → element_of after id ≡ followed (element_of (take (i + 1) news) id) (element_of live id)
      each id =
          one.each id ∙ ap (followed (cond (has_id id e) (Some e) None)) (so_far.each id) ∙ by (has_id id e) refl
          ∙ sym (ap (λ es. followed (element_of es id) (element_of live id)) more
          ∙ ap (λ o. followed o (element_of live id)) (element-append (take i news) (e ∷ []) id))
        where
          by : (b : Bool) → has_id id e ≡ b → followed (cond (has_id id e) (Some e) None)
              (followed (element_of (take i news) id) (element_of live id))
              ≡ followed (option_or (element_of (take i news) id) (cond (has_id id e) (Some e) None))
              (element_of live id)
          by true own =
              let none : element_of (take i news) id ≡ None =
              ap (element_of (take i news)) (same_id id e own) ∙ fresh in
              rw (own, none) refl
          by false other = rw other (last (element_of (take i news) id)) where
            last : (o : Option ElementValue) → followed o (element_of live id)
                ≡ followed (option_or o None) (element_of live id)
            last None = refl
            last (Some x) = refl

-- ---- a view that is kept twice
pub twin-followed : (old new news : List ElementValue) (twin after : Option (List ElementValue))
    → IfSome twin (λ t. t ≡ old) → HaveFollowed old news new
    → IfSome after (λ a. IfSome twin (λ b. HaveFollowed b news a)) → (IsSome after → IsSome twin)
    → IfSome after (λ t. t ≡ new)
twin-followed old new news twin None same has is there = tt
twin-followed old new news None (Some a) same has is there = let never : false ≡ true = there refl in cc
twin-followed old new news (Some b) (Some a) same has is there =
    same-followed old news a new (subst (λ es. HaveFollowed es news a) same is) has
