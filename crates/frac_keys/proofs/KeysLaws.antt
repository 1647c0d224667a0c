-- The keys between two ends rise strictly from the one to the other.
use Rattle.std.proofs.Common.{◌≡◌, ℕ, zero, suc, ◌+◌, ◌-◌, ◌/◌, ◌≤◌, Bool, true, false, cond, List, [], ◌∷◌, ◌++◌, length, map, filter, Option, Some, None, eqb, refl, sym, ◌∙◌, subst, length-append, ◌<◌, le_refl, arith, ap, is_lt, nat_cmp, Less}
use Rattle.std.specs.List.{list_all, AllByRecursion}
use Rattle.std.proofs.lemmas.Bool.{cond_both, and_from, and_parts, eqb-true, eqb-false}
use Rattle.std.proofs.lemmas.List.Folds.{list_all-append}
use Rattle.std.specs.List.Sorted.{IsStrictlySortedBy}
use Rattle.std.specs.Cmp.Lexicographic.{slice_cmp}
use Rattle.frac_keys.specs.Keys.{is_key, bytes_less}
use Rattle.frac_keys.specs.Between.{key_between, keys_above, keys_below, keys_inside, keys_between}
use Rattle.frac_keys.specs.Rising.{ends_rise, is_key_or_none, lies_between, rise_between, are_rising}
use Rattle.frac_keys.proofs.OrderLaws.{bytes_less-trans}
use Rattle.frac_keys.proofs.BetweenLaws.{key_between-law}

-- keys that rise to a key and keys that rise from it rise together
pub rise_between-join : (a b : Option (List ℕ)) (xs : List (List ℕ)) (k : List ℕ) (ys : List (List ℕ))
    → rise_between a (Some k) xs ≡ true → rise_between (Some k) b ys ≡ true → rise_between a b (xs ++ k ∷ ys) ≡ true
rise_between-join a b [] k ys h l = and_from (ends_rise a (Some k)) (rise_between (Some k) b ys) h l
rise_between-join a b (x ∷ xs) k ys h l =
    let p = and_parts (ends_rise a (Some x)) (rise_between (Some x) (Some k) xs) h in
    and_from (ends_rise a (Some x)) (rise_between (Some x) b (xs ++ k ∷ ys)) p.0
    (rise_between-join (Some x) b xs k ys p.1 l)

pub ends_rise-trans : (a : Option (List ℕ)) (k : List ℕ) (b : Option (List ℕ)) → ends_rise a (Some k) ≡ true
    → ends_rise (Some k) b ≡ true → ends_rise a b ≡ true
ends_rise-trans None k b h l = refl
ends_rise-trans (Some a) k None h l = refl
ends_rise-trans (Some a) k (Some b) h l = bytes_less-trans a k b h l

-- where keys rise from one end to another, so do the ends
pub rise_between-ends : (a b : Option (List ℕ)) (keys : List (List ℕ)) → rise_between a b keys ≡ true
    → ends_rise a b ≡ true
rise_between-ends a b [] h = h
rise_between-ends a b (k ∷ keys) h =
    let p = and_parts (ends_rise a (Some k)) (rise_between (Some k) b keys) h in
    ends_rise-trans a k b p.0 (rise_between-ends (Some k) b keys p.1)

-- keys that are sorted rise
below-less : (key : List ℕ) (keys : List (List ℕ)) → AllByRecursion (λ other. slice_cmp nat_cmp key other ≡ Less) keys
    → AllByRecursion (λ other. bytes_less key other ≡ true) keys
below-less key [] all = tt
below-less key (other ∷ keys) all = (ap is_lt all.0, below-less key keys all.1)

sorted-between : (low : Option (List ℕ)) (keys : List (List ℕ))
    → AllByRecursion (λ key. ends_rise low (Some key) ≡ true) keys → IsStrictlySortedBy (slice_cmp nat_cmp) keys
    → rise_between low None keys ≡ true
unfolding IsStrictlySortedBy
sorted-between None [] above sorted = refl
sorted-between (Some k) [] above sorted = refl
sorted-between low (key ∷ keys) above sorted =
    and_from _ _ above.0 (sorted-between (Some key) keys (below-less key keys sorted.0) sorted.1)

pub sorted-rising : (keys : List (List ℕ)) → IsStrictlySortedBy (slice_cmp nat_cmp) keys → are_rising keys ≡ true
sorted-rising keys sorted = sorted-between None keys (free keys) sorted
  where
    free : (keys : List (List ℕ)) → AllByRecursion (λ (key : List ℕ). ends_rise None (Some key) ≡ true) keys
    free [] = tt
    free (key ∷ keys) = (refl, free keys)

-- and each key lies between the ends
wider : (a : Option (List ℕ)) (k : List ℕ) (b : Option (List ℕ)) (keys : List (List ℕ)) → ends_rise a (Some k) ≡ true
    → list_all (lies_between (Some k) b) keys ≡ true → list_all (lies_between a b) keys ≡ true
wider a k b [] l h = refl
wider a k b (x ∷ keys) l h =
    let p = and_parts (lies_between (Some k) b x) (list_all (lies_between (Some k) b) keys) h in
    let q = and_parts (ends_rise (Some k) (Some x)) (ends_rise (Some x) b) p.0 in
    and_from (lies_between a b x) (list_all (lies_between a b) keys)
    (and_from (ends_rise a (Some x)) (ends_rise (Some x) b) (ends_rise-trans a k (Some x) l q.0) q.1)
    (wider a k b keys l p.1)

pub lies_between-risen : (a b : Option (List ℕ)) (keys : List (List ℕ)) → rise_between a b keys ≡ true
    → list_all (lies_between a b) keys ≡ true
lies_between-risen a b [] h = refl
lies_between-risen a b (k ∷ keys) h =
    let p = and_parts (ends_rise a (Some k)) (rise_between (Some k) b keys) h in
    and_from (lies_between a b k) (list_all (lies_between a b) keys)
    (and_from (ends_rise a (Some k)) (ends_rise (Some k) b) p.0 (rise_between-ends (Some k) b keys p.1))
    (wider a k b keys p.0 (lies_between-risen (Some k) b keys p.1))

-- The law: there are n keys, they are keys, and they rise strictly from one end to the other.
pub record AreBetween (a b : Option (List ℕ)) (n : ℕ) (keys : List (List ℕ)) : Type 0 where
  pub count : length keys ≡ n
  pub are_keys : list_all is_key keys ≡ true
  pub rise : rise_between a b keys ≡ true

none : (a b : Option (List ℕ)) → ends_rise a b ≡ true → AreBetween a b 0 []
none a b h = record { count = refl; are_keys = refl; rise = h }

-- keys up to a key, the key, and keys from it on
pub AreBetween-join : {a b : Option (List ℕ)} {m n : ℕ} {xs : List (List ℕ)} {k : List ℕ} {ys : List (List ℕ)}
    (total : ℕ)
    → m + n + 1 ≡ total → is_key k ≡ true
    → AreBetween a (Some k) m xs → AreBetween (Some k) b n ys → AreBetween a b total (xs ++ k ∷ ys)
AreBetween-join {a} {b} {m} {n} {xs} {k} {ys} total e key h l = record {
  count = length-append xs (k ∷ ys) ∙ omega (arith, h.count, l.count);
  are_keys = list_all-append is_key xs (k ∷ ys)
      ∙ and_from (list_all is_key xs) (list_all is_key (k ∷ ys)) h.are_keys
      (and_from (is_key k) (list_all is_key ys) key l.are_keys);
  rise = rise_between-join a b xs k ys h.rise l.rise;
}

-- every key is below an end that is absent
pub ends_rise-none : (a : Option (List ℕ)) → ends_rise a None ≡ true
ends_rise-none None = refl
ends_rise-none (Some a) = refl

-- what rises from an end rises from any lesser one
pub rise_between-lower : (a : Option (List ℕ)) (k : List ℕ) (keys : List (List ℕ)) → ends_rise a (Some k) ≡ true
    → rise_between (Some k) None keys ≡ true → rise_between a None keys ≡ true
rise_between-lower a k [] l h = ends_rise-none a
rise_between-lower a k (x ∷ keys) l h =
    let p = and_parts (ends_rise (Some k) (Some x)) (rise_between (Some x) None keys) h in
    and_from (ends_rise a (Some x)) (rise_between (Some x) None keys) (ends_rise-trans a k (Some x) l p.0) p.1

-- some of a list whose keys rise have rising keys
pub rise_between-filter : {X : Type 0} (key_of : X → List ℕ) (p : X → Bool) (a : Option (List ℕ)) (xs : List X)
    → rise_between a None (map key_of xs) ≡ true → rise_between a None (map key_of (filter p xs)) ≡ true
rise_between-filter key_of p a [] h = h
rise_between-filter key_of p a (x ∷ xs) h =
    let parts = and_parts (ends_rise a (Some (key_of x))) (rise_between (Some (key_of x)) None (map key_of xs)) h in
    let rest = rise_between-filter key_of p (Some (key_of x)) xs parts.1 in
    elim (p x) as (λ b. rise_between a None (map key_of (cond b (x ∷ filter p xs) (filter p xs))) ≡ true) [
      | true ↦ and_from (ends_rise a (Some (key_of x))) (rise_between (Some (key_of x)) None (map key_of (filter p xs)))
          parts.0 rest
      | false ↦ rise_between-lower a (key_of x) (map key_of (filter p xs)) parts.0 rest
    ]

keys_above-law : (a : Option (List ℕ)) (n : ℕ) → is_key_or_none a ≡ true → AreBetween a None n (keys_above a n)
unfolding keys_above
keys_above-law a zero h = none a None (ends_rise-none a)
keys_above-law a (suc n) h =
    let k = key_between-law a None h refl (ends_rise-none a) in
    AreBetween-join {xs = []} (suc n) (omega arith) k.key (none a (Some (key_between a None)) k.above)
    (keys_above-law (Some (key_between a None)) n k.key)

keys_below-law : (b : Option (List ℕ)) (n : ℕ) → is_key_or_none b ≡ true → AreBetween None b n (keys_below b n)
unfolding keys_below
keys_below-law b zero h = none None b refl
keys_below-law b (suc n) h =
    let k = key_between-law None b refl h refl in
    AreBetween-join {ys = []} (suc n) (omega arith) k.key (keys_below-law (Some (key_between None b)) n k.key)
    (none (Some (key_between None b)) b k.below)

keys_inside-law : (depth : ℕ) (a b : Option (List ℕ)) (n : ℕ) → n ≤ depth → is_key_or_none a ≡ true
    → is_key_or_none b ≡ true → ends_rise a b ≡ true → AreBetween a b n (keys_inside depth a b n)
unfolding keys_inside
keys_inside-law zero a b n most h l e =
    let none_left : 0 ≡ n = omega arith in subst (λ m. AreBetween a b m []) none_left (none a b e)
keys_inside-law (suc depth) a b n most h l e =
    let c = Some (key_between a b) in
    let k = key_between-law a b h l e in
    let upper = n - n / 2 - 1 in
    cond_both (eqb n 0) [] (keys_inside depth a c (n / 2) ++ key_between a b ∷ keys_inside depth c b upper)
    (AreBetween a b n)
    (λ t. subst (λ m. AreBetween a b m []) (sym (eqb-true n 0 t)) (none a b e))
    (λ f.
    let some : 0 < n = grind (arith, eqb-false n 0 f) in
    AreBetween-join n (omega arith) k.key
    (keys_inside-law depth a c (n / 2) (omega arith) h k.key k.above)
    (keys_inside-law depth c b upper (omega arith) k.key l k.below))

pub keys_between-law : (a b : Option (List ℕ)) (n : ℕ) → is_key_or_none a ≡ true → is_key_or_none b ≡ true
    → ends_rise a b ≡ true → AreBetween a b n (keys_between a b n)
keys_between-law a None n h l e = keys_above-law a n h
keys_between-law None (Some b) n h l e = keys_below-law (Some b) n l
keys_between-law (Some a) (Some b) n h l e = keys_inside-law n (Some a) (Some b) n (le_refl n) h l e

-- the same of lists that are known to be those keys
pub keys_between_are : (a b : Option (List ℕ)) (n : ℕ) → is_key_or_none a ≡ true → is_key_or_none b ≡ true
    → ends_rise a b ≡ true → (keys : List (List ℕ)) → keys ≡ keys_between a b n → AreBetween a b n keys
keys_between_are a b n h l e keys are = subst (AreBetween a b n) (sym are) (keys_between-law a b n h l e)
