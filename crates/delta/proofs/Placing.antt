-- Items in the order of their ids: where an id belongs, what one more makes of them, and that they are told by their
-- ids.
use Rattle.std.proofs.Common.{◌≡◌, ℕ, zero, suc, ◌<◌, Bool, true, false, cond, List, [], ◌∷◌, map, length, get_or, take, drop, set, insert, Option, Some, None, All, slice_get, if◌then◌else◌, bytes_eq, Contains, inl, inr, refl, sym, ap, ◌∙◌, subst, arith}
use Rattle.std.specs.Option.{option_map_or}
use Rattle.std.specs.List.{AllByRecursion}
use Rattle.std.specs.List.Sorted.{IsPartitionedBy}
use Rattle.std.proofs.lemmas.Bool.{cases_Bool, false≢true, and_parts, and_from}
use Rattle.std.proofs.lemmas.Option.{none-some, same_Some}
use Rattle.json_text.proofs.CallerLemmas.{bytes_eq-true, bytes_eq-same, bytes_eq-flip}
use Rattle.frac_keys.specs.Keys.{bytes_less}
use Rattle.frac_keys.specs.Rising.{ends_rise, rise_between, are_rising}
use Rattle.frac_keys.proofs.CallerLemmas.{bytes_less-trans, bytes_less-asym, bytes_less-turned, bytes_eq-less}
use Rattle.delta.specs.Placed.{item_of, with_item}

more-apart : (a b : List ℕ) → bytes_less b a ≡ true → bytes_eq a b ≡ false
more-apart a b l = bytes_eq-flip b a (bytes_eq-less b a l)

module _ {X : Type 0} (id_of : X → List ℕ) where
  -- what stands behind an end rises from any lesser one
  lower : (a k : List ℕ) (xs : List X) → bytes_less a k ≡ true → rise_between (Some k) None (map id_of xs) ≡ true
      → rise_between (Some a) None (map id_of xs) ≡ true
  lower a k [] l h = refl
  lower a k (x ∷ xs) l h =
      let parts = and_parts (bytes_less k (id_of x)) (rise_between (Some (id_of x)) None (map id_of xs)) h in
      and_from (bytes_less a (id_of x)) (rise_between (Some (id_of x)) None (map id_of xs))
      (bytes_less-trans a k (id_of x) l parts.0) parts.1

  -- an end isn't the id of what stands behind it
  pub none-behind : (k : List ℕ) (xs : List X) → rise_between (Some k) None (map id_of xs) ≡ true
      → item_of id_of xs k ≡ None
  none-behind k [] h = refl
  none-behind k (x ∷ xs) h =
      let parts = and_parts (bytes_less k (id_of x)) (rise_between (Some (id_of x)) None (map id_of xs)) h in
      ap (λ b. cond b (Some x) (item_of id_of xs k)) (bytes_eq-less k (id_of x) parts.0)
      ∙ none-behind k xs (lower k (id_of x) xs parts.0 parts.1)

  rising-tail : (x : X) (xs : List X) → rise_between (Some (id_of x)) None (map id_of xs) ≡ true
      → are_rising (map id_of xs) ≡ true
  rising-tail x [] h = refl
  rising-tail x (y ∷ ys) h =
      (and_parts (bytes_less (id_of x) (id_of y)) (rise_between (Some (id_of y)) None (map id_of ys)) h).1

  -- ---- one more
  put-found : (a : Option (List ℕ)) (x : X) (xs : List X) (id : List ℕ) → rise_between a None (map id_of xs) ≡ true
      → item_of id_of (with_item id_of x xs) id ≡ cond (bytes_eq id (id_of x)) (Some x) (item_of id_of xs id)
  put-found a x [] id h = refl
  put-found a x (y ∷ ys) id h =
      let parts = and_parts (ends_rise a (Some (id_of y))) (rise_between (Some (id_of y)) None (map id_of ys)) h in
      elim (bytes_less (id_of y) (id_of x)) as (λ b. bytes_less (id_of y) (id_of x) ≡ b
      → item_of id_of (if b then y ∷ with_item id_of x ys else (if bytes_eq (id_of x) (id_of y) then x ∷ ys else x
      ∷ y ∷ ys)) id ≡ cond (bytes_eq id (id_of x)) (Some x) (item_of id_of (y ∷ ys) id)) [
        | true ↦ λ less.
            ap (λ o. cond (bytes_eq id (id_of y)) (Some y) o) (put-found (Some (id_of y)) x ys id parts.1)
            ∙ swapped y ys id (bytes_eq id (id_of y)) (bytes_eq id (id_of x))
            (λ t. ap (λ k. bytes_eq k (id_of x)) (bytes_eq-true id (id_of y) t)
            ∙ bytes_eq-less (id_of y) (id_of x) less)
        | false ↦ λ more.
            elim (bytes_eq (id_of x) (id_of y)) as (λ b. bytes_eq (id_of x) (id_of y) ≡ b
            → item_of id_of (if b then x ∷ ys else x ∷ y ∷ ys) id
            ≡ cond (bytes_eq id (id_of x)) (Some x) (item_of id_of (y ∷ ys) id)) [
              | true ↦ λ same. again y ys id (bytes_eq id (id_of x)) (bytes_eq id (id_of y))
                  (ap (bytes_eq id) (bytes_eq-true (id_of x) (id_of y) same))
              | false ↦ λ other. refl
            ] refl
      ] refl
    where
      swapped : (y : X) (ys : List X) (id : List ℕ) (b c : Bool) → (b ≡ true → c ≡ false)
          → cond b (Some y) (cond c (Some x) (item_of id_of ys id))
          ≡ cond c (Some x) (cond b (Some y) (item_of id_of ys id))
      swapped y ys id true true h = absurd (false≢true (sym (h refl)))
      swapped y ys id true false h = refl
      swapped y ys id false c h = refl

      again : (y : X) (ys : List X) (id : List ℕ) (b c : Bool) → b ≡ c
          → cond b (Some x) (item_of id_of ys id) ≡ cond b (Some x) (cond c (Some y) (item_of id_of ys id))
      again y ys id true c e = refl
      again y ys id false true e = absurd (false≢true e)
      again y ys id false false e = refl

  -- it is the item of its id, and the others stay
  pub item-put : (x : X) (xs : List X) (id : List ℕ) → are_rising (map id_of xs) ≡ true
      → item_of id_of (with_item id_of x xs) id ≡ cond (bytes_eq id (id_of x)) (Some x) (item_of id_of xs id)
  item-put x xs id h = put-found None x xs id h

  put-rises : (a : Option (List ℕ)) (x : X) (xs : List X) → ends_rise a (Some (id_of x)) ≡ true
      → rise_between a None (map id_of xs) ≡ true → rise_between a None (map id_of (with_item id_of x xs)) ≡ true
  put-rises a x [] first h = and_from (ends_rise a (Some (id_of x))) true first refl
  put-rises a x (y ∷ ys) first h =
      let parts = and_parts (ends_rise a (Some (id_of y))) (rise_between (Some (id_of y)) None (map id_of ys)) h in
      elim (bytes_less (id_of y) (id_of x)) as (λ b. bytes_less (id_of y) (id_of x) ≡ b
      → rise_between a None (map id_of (if b then y
      ∷ with_item id_of x ys else (if bytes_eq (id_of x) (id_of y) then x ∷ ys else x ∷ y ∷ ys))) ≡ true) [
        | true ↦ λ less. and_from (ends_rise a (Some (id_of y)))
            (rise_between (Some (id_of y)) None (map id_of (with_item id_of x ys))) parts.0
            (put-rises (Some (id_of y)) x ys less parts.1)
        | false ↦ λ more.
            elim (bytes_eq (id_of x) (id_of y)) as (λ b. bytes_eq (id_of x) (id_of y) ≡ b
            → rise_between a None (map id_of (if b then x ∷ ys else x ∷ y ∷ ys)) ≡ true) [
              | true ↦ λ same.
                  and_from (ends_rise a (Some (id_of x))) (rise_between (Some (id_of x)) None (map id_of ys)) first
                  (subst (λ k. rise_between (Some k) None (map id_of ys) ≡ true)
                  (sym (bytes_eq-true (id_of x) (id_of y) same)) parts.1)
              | false ↦ λ other.
                  and_from (ends_rise a (Some (id_of x))) (rise_between (Some (id_of x)) None (map id_of (y ∷ ys)))
                  first
                  (and_from (bytes_less (id_of x) (id_of y)) (rise_between (Some (id_of y)) None (map id_of ys))
                  (bytes_less-turned (id_of x) (id_of y) other more) parts.1)
            ] refl
      ] refl

  pub rising-put : (x : X) (xs : List X) → are_rising (map id_of xs) ≡ true
      → are_rising (map id_of (with_item id_of x xs)) ≡ true
  rising-put x xs h = put-rises None x xs refl h

  pub each-put : (P : X → Type 0) (x : X) (xs : List X) → P x → AllByRecursion P xs
      → AllByRecursion P (with_item id_of x xs)
  each-put P x [] p all = (p, tt)
  each-put P x (y ∷ ys) p all =
      elim (bytes_less (id_of y) (id_of x)) as
      (λ b. AllByRecursion P (if b then y ∷ with_item id_of x ys else (if bytes_eq (id_of x) (id_of y) then x
      ∷ ys else x ∷ y ∷ ys))) [
        | true ↦ (all.0, each-put P x ys p all.1)
        | false ↦ elim (bytes_eq (id_of x) (id_of y)) as (λ b. AllByRecursion P (if b then x ∷ ys else x ∷ y ∷ ys))
            [ true ↦ (p, all.1) | false ↦ (p, all) ]
      ]

  -- ---- where an id belongs
  -- whether the item at the index is of this id
  abbrev pub is_at : List ℕ → List X → ℕ → Bool
  is_at id xs i = option_map_or (λ x. bytes_eq id (id_of x)) (slice_get xs i) false

  pub put-at : (x : X) (xs : List X) (i : ℕ) → All (λ y. bytes_less (id_of y) (id_of x) ≡ true) (take i xs)
      → All (λ y. bytes_less (id_of y) (id_of x) ≡ false) (drop i xs)
      → with_item id_of x xs ≡ (if is_at (id_of x) xs i then set xs i x else insert xs i x)
  put-at x [] zero before behind = refl
  put-at x [] (suc i) before behind = refl
  put-at x (y ∷ ys) zero before behind =
      ap (λ b. if b then y ∷ with_item id_of x ys else (if bytes_eq (id_of x) (id_of y) then x ∷ ys else x ∷ y ∷ ys))
      (behind 0 y (omega arith))
  put-at x (y ∷ ys) (suc i) before behind =
      ap (λ b. if b then y ∷ with_item id_of x ys else (if bytes_eq (id_of x) (id_of y) then x ∷ ys else x ∷ y ∷ ys))
      (before 0 y (omega arith))
      ∙ ap (λ zs. y ∷ zs) (put-at x ys i (λ k d l. before (suc k) d (omega arith)) behind)
      ∙ (elim (is_at (id_of x) ys i) as (λ b. y ∷ (if b then set ys i x else insert ys i x)
      ≡ (if b then set (y ∷ ys) (suc i) x else insert (y ∷ ys) (suc i) x)) [ true ↦ refl | false ↦ refl ])

  behind-less : (k : List ℕ) (ys : List X) (j : ℕ) (d : X) → rise_between (Some k) None (map id_of ys) ≡ true
      → j < length ys → bytes_less k (id_of (get_or ys j d)) ≡ true
  behind-less k [] j d h l = absurd (omega arith)
  behind-less k (y ∷ ys) zero d h l =
      (and_parts (bytes_less k (id_of y)) (rise_between (Some (id_of y)) None (map id_of ys)) h).0
  behind-less k (y ∷ ys) (suc j) d h l =
      let parts = and_parts (bytes_less k (id_of y)) (rise_between (Some (id_of y)) None (map id_of ys)) h in
      bytes_less-trans k (id_of y) (id_of (get_or ys j d)) parts.0 (behind-less (id_of y) ys j d parts.1 (omega arith))

  parted : (a : Option (List ℕ)) (id : List ℕ) (xs : List X) → rise_between a None (map id_of xs) ≡ true
      → IsPartitionedBy (λ x. bytes_less (id_of x) id) xs
  parted a id [] rise i j d le l h = absurd (omega arith)
  parted a id (x ∷ xs) rise zero zero d le l h = h
  parted a id (x ∷ xs) rise (suc i) zero d le l h = absurd (omega arith)
  parted a id (x ∷ xs) rise zero (suc j) d le l h =
      bytes_less-trans (id_of x) (id_of (get_or xs j d)) id
      (behind-less (id_of x) xs j d (and_parts (ends_rise a (Some (id_of x)))
      (rise_between (Some (id_of x)) None (map id_of xs)) rise).1 (omega arith)) h
  parted a id (x ∷ xs) rise (suc i) (suc j) d le l h =
      parted (Some (id_of x)) id xs (and_parts (ends_rise a (Some (id_of x)))
      (rise_between (Some (id_of x)) None (map id_of xs)) rise).1 i j d (omega arith) (omega arith) h

  -- the lesser ids stand first
  pub partitioned-rising : (id : List ℕ) (xs : List X) → are_rising (map id_of xs) ≡ true
      → IsPartitionedBy (λ x. bytes_less (id_of x) id) xs
  partitioned-rising id xs h = parted None id xs h

  -- no earlier item has the id of a later one
  earlier-none : (a : Option (List ℕ)) (xs : List X) (i : ℕ) (x : X) → rise_between a None (map id_of xs) ≡ true
      → i < length xs → x ≡ get_or xs i x → item_of id_of (take i xs) (id_of x) ≡ None
  earlier-none a [] i x h l here = absurd (omega arith)
  earlier-none a (y ∷ ys) zero x h l here = refl
  earlier-none a (y ∷ ys) (suc i) x h l here =
      let parts = and_parts (ends_rise a (Some (id_of y))) (rise_between (Some (id_of y)) None (map id_of ys)) h in
      ap (λ b. cond b (Some y) (item_of id_of (take i ys) (id_of x)))
      (more-apart (id_of x) (id_of y) (ap (λ z. bytes_less (id_of y) (id_of z)) here
      ∙ behind-less (id_of y) ys i x parts.1 (omega arith)))
      ∙ earlier-none (Some (id_of y)) ys i x parts.1 (omega arith) here

  pub none-earlier : (xs : List X) (i : ℕ) (x : X) → are_rising (map id_of xs) ≡ true → i < length xs
      → x ≡ get_or xs i x → item_of id_of (take i xs) (id_of x) ≡ None
  none-earlier xs i x h l here = earlier-none None xs i x h l here

  -- ---- items are told by their ids
  pub item-first : (x : X) (xs : List X) → item_of id_of (x ∷ xs) (id_of x) ≡ Some x
  item-first x xs = ap (λ b. cond b (Some x) (item_of id_of xs (id_of x))) (bytes_eq-same (id_of x))

  -- what is found stands behind the end
  found-behind : (k : List ℕ) (xs : List X) (id : List ℕ) (x : X) → rise_between (Some k) None (map id_of xs) ≡ true
      → item_of id_of xs id ≡ Some x → bytes_less k id ≡ true
  found-behind k [] id x h found = absurd (none-some x found)
  found-behind k (y ∷ ys) id x h found =
      let parts = and_parts (bytes_less k (id_of y)) (rise_between (Some (id_of y)) None (map id_of ys)) h in
      elim (cases_Bool (bytes_eq id (id_of y))) [
        | inl t ↦ ap (bytes_less k) (bytes_eq-true id (id_of y) t) ∙ parts.0
        | inr f ↦ bytes_less-trans k (id_of y) id parts.0
            (found-behind (id_of y) ys id x parts.1 (sym (ap (λ b. cond b (Some y) (item_of id_of ys id)) f) ∙ found))
      ]

  heads-same : (x y : X) (xs ys : List X) → rise_between (Some (id_of x)) None (map id_of xs) ≡ true
      → rise_between (Some (id_of y)) None (map id_of ys) ≡ true → item_of id_of (y ∷ ys) (id_of x) ≡ Some x
      → item_of id_of (x ∷ xs) (id_of y) ≡ Some y → x ≡ y
  heads-same x y xs ys h k c d =
      elim (cases_Bool (bytes_eq (id_of x) (id_of y))) [
        | inl t ↦ same_Some x y (sym c ∙ ap (λ b. cond b (Some y) (item_of id_of ys (id_of x))) t)
        | inr f ↦
            let low = found-behind (id_of y) ys (id_of x) x k
            (sym (ap (λ b. cond b (Some y) (item_of id_of ys (id_of x))) f) ∙ c) in
            let other = more-apart (id_of y) (id_of x) in
            elim (cases_Bool (bytes_eq (id_of y) (id_of x))) [
              | inl t ↦ absurd (false≢true (sym f ∙ ap (λ b. bytes_eq (id_of x) b) (bytes_eq-true (id_of y) (id_of x) t)
                  ∙ bytes_eq-same (id_of x)))
              | inr g ↦
                  let high = found-behind (id_of x) xs (id_of y) y h
                  (sym (ap (λ b. cond b (Some x) (item_of id_of xs (id_of y))) g) ∙ d) in
                  absurd (false≢true (sym (bytes_less-asym (id_of x) (id_of y) high) ∙ low))
            ]
      ]

  -- lists that have the same item of each id, in the order of the ids, are the same
  pub same_items : (xs ys : List X) → are_rising (map id_of xs) ≡ true → are_rising (map id_of ys) ≡ true
      → ((id : List ℕ) → item_of id_of xs id ≡ item_of id_of ys id) → xs ≡ ys
  same_items [] [] h k same = refl
  same_items [] (y ∷ ys) h k same = absurd (none-some y (same (id_of y) ∙ item-first y ys))
  same_items (x ∷ xs) [] h k same = absurd (none-some x (sym (same (id_of x)) ∙ item-first x xs))
  same_items (x ∷ xs) (y ∷ ys) h k same =
      let one : x ≡ y =
      heads-same x y xs ys h k (sym (same (id_of x)) ∙ item-first x xs) (same (id_of y) ∙ item-first y ys) in
      let k' : rise_between (Some (id_of x)) None (map id_of ys) ≡ true =
      subst (λ z. rise_between (Some (id_of z)) None (map id_of ys) ≡ true) (sym one) k in
      let same' : (id : List ℕ) → item_of id_of (x ∷ xs) id ≡ item_of id_of (x ∷ ys) id =
      λ id. same id ∙ ap (λ z. item_of id_of (z ∷ ys) id) (sym one) in
      ap (λ zs. x ∷ zs) (same_items xs ys (rising-tail x xs h) (rising-tail x ys k') (tails-same x xs ys h k' same'))
      ∙ ap (λ z. z ∷ ys) one
    where
      tails-same : (x : X) (xs ys : List X) → rise_between (Some (id_of x)) None (map id_of xs) ≡ true
          → rise_between (Some (id_of x)) None (map id_of ys) ≡ true
          → ((id : List ℕ) → item_of id_of (x ∷ xs) id ≡ item_of id_of (x ∷ ys) id) → (id : List ℕ)
          → item_of id_of xs id ≡ item_of id_of ys id
      tails-same x xs ys h k same id =
          elim (cases_Bool (bytes_eq id (id_of x))) [
            | inl t ↦
                let own = bytes_eq-true id (id_of x) t in
                ap (item_of id_of xs) own ∙ none-behind (id_of x) xs h
                ∙ sym (ap (item_of id_of ys) own ∙ none-behind (id_of x) ys k)
            | inr f ↦ sym (ap (λ b. cond b (Some x) (item_of id_of xs id)) f) ∙ same id
                ∙ ap (λ b. cond b (Some x) (item_of id_of ys id)) f
          ]

  -- an item of the list is that of its id
  member-of : (a : Option (List ℕ)) (xs : List X) (x : X) → rise_between a None (map id_of xs) ≡ true → Contains xs x
      → item_of id_of xs (id_of x) ≡ Some x
  member-of a [] x h c = absurd (omega (arith, c.1))
  member-of a (y ∷ ys) x h (zero, l, e) =
      ap (λ z. item_of id_of (y ∷ ys) (id_of z)) (sym e) ∙ item-first y ys ∙ ap Some e
  member-of a (y ∷ ys) x h (suc k, l, e) =
      let parts = and_parts (ends_rise a (Some (id_of y))) (rise_between (Some (id_of y)) None (map id_of ys)) h in
      let later = member-of (Some (id_of y)) ys x parts.1 (k, omega arith, e) in
      ap (λ b. cond b (Some y) (item_of id_of ys (id_of x)))
      (more-apart (id_of x) (id_of y) (found-behind (id_of y) ys (id_of x) x parts.1 later))
      ∙ later

  pub item-member : (xs : List X) (x : X) → are_rising (map id_of xs) ≡ true → Contains xs x
      → item_of id_of xs (id_of x) ≡ Some x
  item-member xs x h c = member-of None xs x h c

  -- what is found is an item of the list, and of the id
  pub item-found : (xs : List X) (id : List ℕ) (x : X) → item_of id_of xs id ≡ Some x → Contains xs x × (id ≡ id_of x)
  item-found [] id x found = absurd (none-some x found)
  item-found (y ∷ ys) id x found =
      elim (cases_Bool (bytes_eq id (id_of y))) [
        | inl t ↦
            let same = same_Some y x (sym (ap (λ b. cond b (Some y) (item_of id_of ys id)) t) ∙ found) in
            ((0, omega arith, same), bytes_eq-true id (id_of y) t ∙ ap id_of same)
        | inr f ↦
            let later = item-found ys id x (sym (ap (λ b. cond b (Some y) (item_of id_of ys id)) f) ∙ found) in
            ((suc later.0.0, omega (arith, later.0.1), later.0.2), later.1)
      ]

  -- lists of the same items, in the order of the ids, are the same
  pub same_members : (xs ys : List X) → are_rising (map id_of xs) ≡ true → are_rising (map id_of ys) ≡ true
      → ((x : X) → Contains xs x → Contains ys x) → ((y : X) → Contains ys y → Contains xs y) → xs ≡ ys
  same_members xs ys h k there back =
      same_items xs ys h k (λ id. each id (item_of id_of xs id) (item_of id_of ys id) refl refl)
    where
      each : (id : List ℕ) (o p : Option X) → item_of id_of xs id ≡ o → item_of id_of ys id ≡ p → o ≡ p
      each id None None a b = refl
      each id (Some x) p a b =
          let found = item-found xs id x a in
          sym (item-member ys x k (there x found.0)) ∙ ap (item_of id_of ys) (sym found.1) ∙ b
      each id None (Some y) a b =
          let found = item-found ys id y b in
          sym a ∙ ap (item_of id_of xs) found.1 ∙ item-member xs y h (back y found.0)
