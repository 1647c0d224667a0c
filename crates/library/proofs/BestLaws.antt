-- The best items of lists.
use Rattle.std.proofs.Common.{◌≡◌, ℕ, Bool, true, false, cond, ◌&&◌, ◌⊎◌, List, [], ◌∷◌, ◌++◌, Option, Some, None, Contains, map, codes, decimal, bytes_eq, is_lt, nat_cmp, refl, sym, ap, ◌∙◌, subst, inl, inr, append_assoc, append-nil, arith}
use Rattle.std.specs.Cmp.Lexicographic.{slice_cmp}
use Rattle.std.specs.Option.{option_map_or}
use Rattle.std.specs.Ordering.{match_ordering}
use Rattle.std.specs.declared.cmp.Ordering.TheVariants.{Less, Equal, Greater}
use Rattle.std.proofs.lemmas.Bool.{and_from, and_parts, both_ways, cases_Bool, cond-true, cond-false, false_from_ne_true}
use Rattle.std.proofs.lemmas.List.Elements.{Contains-append_cases, Contains-append_left, Contains-append_right, Contains-push, Contains-push_cases}
use Rattle.std.proofs.lemmas.Option.{none-some, same_Some}
use Rattle.json_text.specs.Characters.{quote}
use Rattle.json_text.specs.Compact.{array_text, object_text}
use Rattle.json_text.proofs.CallerLemmas.{bytes_eq-true}
use Rattle.scene_json.proofs.CallerLemmas.{bytes_eq-less, bytes_eq-tied, less_turned}
use Rattle.frac_keys.specs.Rising.{ends_rise, rise_between, are_rising}
use Rattle.library.specs.Best.{has_id, ids_of, is_better, is_put, item_of, AreBest, HasPut, HaveSameItems, IsBest}
use Rattle.library.specs.Items.{item_text, library_text}
use Rattle.library.specs.declared.item.Item.{Item}
use Rattle.library.proofs.OrderLaws.{better-below, better-neither, better-same, better-trans}
use Rattle.library.proofs.Rising.{HasAlike, found, found_none, id_among, item_among, member, of_itself, of_same, one_of_id, same_along}

-- ---- one item more
pub none_best : AreBest [] []
none_best = record {
  ordered = refl;
  each_is_best = λ item c. absurd (omega (arith, c.1));
  each_id = λ item c. absurd (omega (arith, c.1));
}

module _ (items best new : List Item) (item : Item) (h : AreBest items best) (t : HasPut best item new) where
  -- of the item's own id it tells whether the item was put
  own_id : (b : Bool) → has_id item.id item ≡ true → (has_id item.id item && is_put best item) ≡ b
      → is_put best item ≡ b
  own_id b own e = sym (ap (λ o. o && is_put best item) own) ∙ e

  -- what is there is the item, which was put, or was there before, and then the item wasn't put if it is of that id
  put-cases : (x : Item) → Contains new x → ((x ≡ item) × (is_put best item ≡ true))
      ⊎ (Contains best x × (x.id ≡ item.id → is_put best item ≡ false))
  put-cases x c = by (has_id x.id item && is_put best item) refl
    where
      there : Some x ≡ cond (has_id x.id item && is_put best item) (Some item) (item_of best x.id)
      there = sym (member new x t.ordered c) ∙ t.each x.id

      by : (b : Bool) → (has_id x.id item && is_put best item) ≡ b → ((x ≡ item) × (is_put best item ≡ true))
          ⊎ (Contains best x × (x.id ≡ item.id → is_put best item ≡ false))
      by true e = inl (
        same_Some x item (there ∙ cond-true (has_id x.id item && is_put best item) (Some item) (item_of best x.id) e),
        (and_parts (has_id x.id item) (is_put best item) e).1,
      )
      by false e = inr (
        (found best x.id x (sym (there ∙ cond-false (has_id x.id item && is_put best item) (Some item)
            (item_of best x.id) e))).0,
        λ same. sym (ap (λ o. o && is_put best item) (of_same x.id item same)) ∙ e,
      )

  -- where the item was put none of its id is better
  put-unbeaten : is_put best item ≡ true → (other : Item) → Contains items other → other.id ≡ item.id
      → is_better other item ≡ false
  put-unbeaten put other c e = by (item_of best item.id) refl
    where
      by : (o : Option Item) → item_of best item.id ≡ o → is_better other item ≡ false
      by None none =
          let there = item_among best other.id (h.each_id other c) in
          absurd (found_none best item.id there.0 none there.1 (there.2 ∙ e))
      by (Some y) some =
          let f = found best item.id y some in
          let worse : is_better other y ≡ false = (h.each_is_best y f.0).unbeaten other c (e ∙ sym f.1) in
          let better : is_better item y ≡ true = sym (ap (λ o. option_map_or (is_better item) o true) some) ∙ put in
          false_from_ne_true (is_better other item)
          (λ more. both_ways (is_better other y) worse (better-trans other item y more better))

  put-is_best : (x : Item) → Contains new x → IsBest (items ++ item ∷ []) x
  put-is_best x c = elim (put-cases x c) [
    | inl put ↦ subst (IsBest (items ++ item ∷ [])) (sym put.0) (record {
      among = Contains-push items item;
      unbeaten = λ other d e. elim (Contains-push_cases items item other d) [
        | inl earlier ↦ put-unbeaten put.1 other earlier e
        | inr same ↦ subst (λ y. is_better y item ≡ false) same (better-same item)
      ];
    })
    | inr old ↦ let b = h.each_is_best x old.0 in record {
      among = Contains-append_left items (item ∷ []) x b.among;
      unbeaten = λ other d e. elim (Contains-push_cases items item other d) [
        | inl earlier ↦ b.unbeaten other earlier e
        | inr same ↦
            let ids : x.id ≡ item.id = sym (ap (λ (y : Item). y.id) same ∙ e) in
            let known : item_of best item.id ≡ Some x = ap (item_of best) (sym ids) ∙ member best x h.ordered old.0 in
            subst (λ y. is_better y x ≡ false) same (sym (ap (λ o. option_map_or (is_better item) o true) known)
            ∙ old.1 ids)
      ];
    }
  ]

  -- an id is there where something is found under it
  id-there : (id : List ℕ) → (item_of new id ≡ None → ⊥) → Contains (ids_of new) id
  id-there id some = by (item_of new id) refl
    where
      by : (o : Option Item) → item_of new id ≡ o → Contains (ids_of new) id
      by None none = absurd (some none)
      by (Some x) is = let f = found new id x is in subst (Contains (ids_of new)) f.1 (id_among new x f.0)

  put-id : (y : Item) → Contains (items ++ item ∷ []) y → Contains (ids_of new) y.id
  put-id y c = elim (Contains-push_cases items item y c) [
    | inl earlier ↦ id-there y.id (λ none.
        let there = item_among best y.id (h.each_id y earlier) in
        kept none there.0 there.1 there.2 (has_id y.id item && is_put best item) refl)
    | inr same ↦ subst (λ (z : Item). Contains (ids_of new) z.id) same
        (id-there item.id (λ none. own none (has_id item.id item && is_put best item) refl))
  ]
    where
      kept : item_of new y.id ≡ None → (z : Item) → Contains best z → z.id ≡ y.id → (b : Bool)
          → (has_id y.id item && is_put best item) ≡ b → ⊥
      kept none z cz ez true e =
          none-some item (sym none ∙ (t.each y.id
          ∙ cond-true (has_id y.id item && is_put best item) (Some item) (item_of best y.id) e))
      kept none z cz ez false e =
          found_none best y.id z (sym (t.each y.id
          ∙ cond-false (has_id y.id item && is_put best item) (Some item) (item_of best y.id) e) ∙ none) cz ez

      own : item_of new item.id ≡ None → (b : Bool) → (has_id item.id item && is_put best item) ≡ b → ⊥
      own none true e =
          none-some item (sym none ∙ (t.each item.id
          ∙ cond-true (has_id item.id item && is_put best item) (Some item) (item_of best item.id) e))
      own none false e =
          let nothing : item_of best item.id ≡ None =
          sym (t.each item.id ∙ cond-false (has_id item.id item && is_put best item) (Some item)
          (item_of best item.id) e) ∙ none in
          both_ways (is_put best item) (own_id false (of_itself item) e)
          (ap (λ o. option_map_or (is_better item) o true) nothing)

  -- best items among which one more was put are the best of the list with this one at its end
  pub AreBest-put : AreBest (items ++ item ∷ []) new
  AreBest-put = record { ordered = t.ordered; each_is_best = put-is_best; each_id = put-id }

-- ---- lists of the same items
abbrev pub IsTied : Item → Item → Type 0
IsTied x y = (is_better x y ≡ false) × (is_better y x ≡ false)

module _ (items others best news : List Item) (same : HaveSameItems items others) (h : AreBest items best)
    (k : AreBest others news) where
  pub best-alike : HasAlike (λ x y. IsBest items x × IsBest items y × IsTied x y) best news
  best-alike x c =
      let b = h.each_is_best x c in
      let there = item_among news x.id (k.each_id x (same.in_others x b.among)) in
      let d = k.each_is_best there.0 there.1 in (
        there.0,
        there.1,
        there.2,
        (
          b,
          record {
            among = same.in_items there.0 d.among;
            unbeaten =
                λ other e i. d.unbeaten other (same.in_others other e) i;
          },
          (
            d.unbeaten x (same.in_others x b.among) (sym there.2),
            b.unbeaten there.0 (same.in_items there.0 d.among) there.2,
          ),
        ),
      )

  pub best-back : HasAlike (λ y x. IsBest items x × IsBest items y × IsTied x y) news best
  best-back y c =
      let d = k.each_is_best y c in
      let there = item_among best y.id (h.each_id y (same.in_items y d.among)) in
      let b = h.each_is_best there.0 there.1 in (
        there.0,
        there.1,
        there.2,
        (
          b,
          record {
            among = same.in_items y d.among;
            unbeaten =
                λ other e i. d.unbeaten other (same.in_others other e) i;
          },
          (
            d.unbeaten there.0 (same.in_others there.0 b.among) there.2,
            b.unbeaten y (same.in_items y d.among) (sym there.2),
          ),
        ),
      )

  best-texts : map item_text best ≡ map item_text news
  best-texts =
      same_along item_text (λ x y. IsBest items x × IsBest items y
      × IsTied x y) (λ x y t. (better-neither x y t.2.0 t.2.1).1) None None best news h.ordered k.ordered best-alike
      best-back

  -- the text of the library of best items depends on the set of the items alone
  pub library-same : library_text best ≡ library_text news
  unfolding library_text
  library-same = ap text best-texts
    where
      text : List (List ℕ) → List ℕ
      text ts = object_text ((codes "type", quote (codes "excalidrawlib")) ∷ (codes "version", decimal 2)
          ∷ (codes "libraryItems", array_text ts) ∷ [])

-- ---- best items of best items
pub AreBest-itself : (items : List Item) → are_rising (ids_of items) ≡ true → AreBest items items
AreBest-itself items rise = record {
  ordered = rise;
  each_is_best = λ item c. record {
    among = c;
    unbeaten = λ other d e. subst (λ x. is_better x item ≡ false) (sym (one_of_id items other item rise d c e))
        (better-same item);
  };
  each_id = id_among items;
}

pub AreBest-best : (items best : List Item) → AreBest items best → AreBest best best
AreBest-best items best h = AreBest-itself best h.ordered

-- The latter items stand for the former: they are among these, and each of these has one of its id among them that it
-- isn't better than.
pub record StandFor (news items : List Item) : Type 0 where
  pub among : (item : Item) → Contains news item → Contains items item
  pub unbeaten : (item : Item) → Contains items item
      → (new : Item) × Contains news new × (new.id ≡ item.id) × (is_better item new ≡ false)

pub best-stand : (items best : List Item) → AreBest items best → StandFor best items
best-stand items best h = record {
  among = λ item c. (h.each_is_best item c).among;
  unbeaten = λ item c.
      let there = item_among best item.id (h.each_id item c) in
      (there.0, there.1, there.2, (h.each_is_best there.0 there.1).unbeaten item c (sym there.2));
}

pub stand-append : (items others news more : List Item) → StandFor news items → StandFor more others
    → StandFor (news ++ more) (items ++ others)
stand-append items others news more h k = record {
  among = λ item c. elim (Contains-append_cases news more item c) [
    | inl l ↦ Contains-append_left items others item (h.among item l)
    | inr r ↦ Contains-append_right items others item (k.among item r)
  ];
  unbeaten = λ item c. elim (Contains-append_cases items others item c) [
    | inl l ↦ let new = h.unbeaten item l in (new.0, Contains-append_left news more new.0 new.1, new.2, new.3)
    | inr r ↦ let new = k.unbeaten item r in (new.0, Contains-append_right news more new.0 new.1, new.2, new.3)
  ];
}

-- the best of items that stand for others are the best of these
pub stand-best : (items news best : List Item) → StandFor news items → AreBest news best → AreBest items best
stand-best items news best h m = record {
  ordered = m.ordered;
  each_is_best = λ x c.
      let b = m.each_is_best x c in record {
        among = h.among x b.among;
        unbeaten = λ other d e.
            let new = h.unbeaten other d in better-below x new.0 other (b.unbeaten new.0 new.1 (new.2 ∙ e)) new.3;
      };
  each_id = λ item c.
      let new = h.unbeaten item c in
      subst (Contains (ids_of best)) new.2 (m.each_id new.0 new.1);
}

-- of two lists joined end to end the best are those of the best of both
pub AreBest-append : (items others best news all : List Item) → AreBest items best → AreBest others news
    → AreBest (best ++ news) all → AreBest (items ++ others) all
AreBest-append items others best news all h k =
    stand-best (items ++ others) (best ++ news) all
    (stand-append items others best news (best-stand items best h) (best-stand others news k))

-- ---- what is found among best items
pub best-found : (items best : List Item) (id : List ℕ) (item : Item) → AreBest items best → item_of best id ≡ Some item
    → IsBest items item × (item.id ≡ id)
best-found items best id item h is = let f = found best id item is in (h.each_is_best item f.0, f.1)

pub best-none : (items best : List Item) (id : List ℕ) (item : Item) → AreBest items best → item_of best id ≡ None
    → Contains items item → item.id ≡ id → ⊥
best-none items best id item h none c e =
    let there = item_among best item.id (h.each_id item c) in
    found_none best id there.0 none there.1 (there.2 ∙ e)

-- ---- every list of items has its best ones
abbrev put : Item → List Item → List Item
put item [] = item ∷ []
put item (x ∷ xs) = match_ordering (slice_cmp nat_cmp item.id x.id) (item ∷ x ∷ xs) (item ∷ xs) (x ∷ put item xs)

put-rises : (low : Option (List ℕ)) (item : Item) (xs : List Item) → ends_rise low (Some item.id) ≡ true
    → rise_between low None (ids_of xs) ≡ true → rise_between low None (ids_of (put item xs)) ≡ true
put-rises low item [] above rise = and_from _ _ above refl
put-rises low item (x ∷ xs) above rise =
    let parts = and_parts (ends_rise low (Some x.id)) (rise_between (Some x.id) None (ids_of xs)) rise in
    elim (slice_cmp nat_cmp item.id x.id) as (λ o. slice_cmp nat_cmp item.id x.id ≡ o
    → rise_between low None (ids_of (match_ordering o (item ∷ x ∷ xs) (item ∷ xs) (x ∷ put item xs))) ≡ true) [
      | Less ↦ λ less. and_from _ _ above (and_from _ _ (ap is_lt less) parts.1)
      | Equal ↦ λ tied. and_from _ _ above (subst (λ id. rise_between (Some id) None (ids_of xs) ≡ true)
          (sym (bytes_eq-true item.id x.id (bytes_eq-tied item.id x.id tied))) parts.1)
      | Greater ↦ λ more. and_from _ _ parts.0 (put-rises (Some x.id) item xs (ap is_lt (less_turned item.id x.id more))
          parts.1)
    ] refl

put-at : (id : List ℕ) (item : Item) (xs : List Item) → item_of (put item xs) id
    ≡ cond (has_id id item) (Some item) (item_of xs id)
put-at id item [] = refl
put-at id item (x ∷ xs) =
    elim (slice_cmp nat_cmp item.id x.id) as (λ o. slice_cmp nat_cmp item.id x.id ≡ o →
    item_of (match_ordering o (item ∷ x ∷ xs) (item ∷ xs) (x ∷ put item xs)) id
    ≡ cond (has_id id item) (Some item) (item_of (x ∷ xs) id)) [
      | Less ↦ λ less. refl
      | Equal ↦ λ tied. elim (cases_Bool (bytes_eq id item.id)) [
        | inl own ↦ rw own refl
        | inr other ↦
            let also : bytes_eq id x.id ≡ false =
            subst (λ y. bytes_eq id y ≡ false) (bytes_eq-true item.id x.id (bytes_eq-tied item.id x.id tied))
            other in
            rw (other, also) refl
      ]
      | Greater ↦ λ more. elim (cases_Bool (bytes_eq id x.id)) [
        | inl first ↦
            let other : bytes_eq id item.id ≡ false =
            subst (λ y. bytes_eq y item.id ≡ false) (sym (bytes_eq-true id x.id first))
            (bytes_eq-less x.id item.id (less_turned item.id x.id more)) in
            rw (first, other) refl
        | inr later ↦ rw later (put-at id item xs)
      ]
    ] refl

-- where the item isn't put all stays
pub HasPut-not : (best : List Item) (item : Item) → are_rising (ids_of best) ≡ true → is_put best item ≡ false
    → HasPut best item best
HasPut-not best item rise stays = record { ordered = rise; each = λ id. by (has_id id item) id }
  where
    by : (b : Bool) (id : List ℕ) → item_of best id ≡ cond (b && is_put best item) (Some item) (item_of best id)
    by true id = sym (cond-false (is_put best item) (Some item) (item_of best id) stays)
    by false id = refl

-- and where it is put, it is the item of its id
pub HasPut-so : (best : List Item) (item : Item) (new : List Item) → are_rising (ids_of new) ≡ true
    → is_put best item ≡ true → ((id : List ℕ) → item_of new id ≡ cond (has_id id item) (Some item) (item_of best id))
    → HasPut best item new
HasPut-so best item new rise puts each = record { ordered = rise; each = λ id. each id ∙ by (has_id id item) id }
  where
    by : (b : Bool) (id : List ℕ) → cond b (Some item) (item_of best id)
        ≡ cond (b && is_put best item) (Some item) (item_of best id)
    by true id = sym (cond-true (is_put best item) (Some item) (item_of best id) puts)
    by false id = refl

more : (best : List Item) (item : Item) → are_rising (ids_of best) ≡ true → (new : List Item) × HasPut best item new
more best item rise = elim (cases_Bool (is_put best item)) [
  | inl puts ↦ (
    put item best,
    HasPut-so best item (put item best) (put-rises None item best refl rise) puts
        (λ id. put-at id item best),
  )
  | inr stays ↦ (best, HasPut-not best item rise stays)
]

best-behind : (done best items : List Item) → AreBest done best → (all : List Item) × AreBest (done ++ items) all
best-behind done best [] h = (best, subst (λ xs. AreBest xs best) (sym (append-nil done)) h)
best-behind done best (item ∷ items) h =
    let next = more best item h.ordered in
    let rest = best-behind (done ++ item ∷ []) next.0 items (AreBest-put done best next.0 item h next.1) in
    (rest.0, subst (λ xs. AreBest xs rest.0) (append_assoc done (item ∷ []) items) rest.1)

pub best-exist : (items : List Item) → (best : List Item) × AreBest items best
best-exist items = best-behind [] [] items none_best
