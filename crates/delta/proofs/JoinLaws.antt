-- Lists that change item by item, item after item.
use Rattle.std.proofs.Common.{◌≡◌, ℕ, suc, ◌+◌, ◌==◌, ◌<◌, Bool, true, false, cond, not, ◌&&◌, ◌||◌, List, [], ◌∷◌, ◌++◌, length, take, get_or, filter, if◌then◌else◌, inl, inr, refl, sym, ap, ◌∙◌, arith}
use Rattle.std.specs.List.{list_all, zip}
use Rattle.std.proofs.lemmas.Bool.{cases_Bool, and_parts, and_from}
use Rattle.std.proofs.lemmas.Bool.Decides.{nat_tests}
use Rattle.std.proofs.lemmas.List.{append-nil, take_more}
use Rattle.std.proofs.lemmas.List.Elements.{filter-append}
use Rattle.std.proofs.Math.Bool.{or-true}
use Rattle.json_text.specs.FirstOccurrences.{first_occurrences}
use Rattle.delta.specs.Joined.{are_same, is_in}

-- ---- lists that are the same
module _ {T : Type 0} (same : T → T → Bool) where
  pub are_same-exact : ((a b : T) → same a b ≡ true → a ≡ b) → (xs ys : List T) → are_same same xs ys ≡ true → xs ≡ ys
  are_same-exact exact [] [] h = refl
  are_same-exact exact [] (y ∷ ys) h = absurd (let e : 0 ≡ suc (length ys) = grind (arith, nat_tests) in omega arith)
  are_same-exact exact (x ∷ xs) [] h = absurd (let e : suc (length xs) ≡ 0 = grind (arith, nat_tests) in omega arith)
  are_same-exact exact (x ∷ xs) (y ∷ ys) h =
      let parts = and_parts (suc (length xs) == suc (length ys)) (same x y
      && list_all (λ (p : T × T). same p.0 p.1) (zip xs ys)) h in
      let items = and_parts (same x y) (list_all (λ (p : T × T). same p.0 p.1) (zip xs ys)) parts.1 in
      let long : (length xs == length ys) ≡ true = grind (arith, nat_tests) in
      let first = exact x y items.0 in
      let rest = are_same-exact exact xs ys (and_from (length xs == length ys) _ long items.1) in
      λ i. first i ∷ rest i

  pub are_same-same : ((a : T) → same a a ≡ true) → (xs : List T) → are_same same xs xs ≡ true
  are_same-same itself xs = and_from (length xs == length xs) _ (grind (arith, nat_tests)) (all xs)
    where
      all : (xs : List T) → list_all (λ (p : T × T). same p.0 p.1) (zip xs xs) ≡ true
      all [] = refl
      all (x ∷ xs) = and_from (same x x) _ (itself x) (all xs)

  -- ---- first occurrences
  pub first_occurrences-push : (xs : List T) (x : T) → first_occurrences same (xs ++ x ∷ [])
      ≡ (if is_in same xs x then first_occurrences same xs else first_occurrences same xs ++ x ∷ [])
  first_occurrences-push [] x = refl
  first_occurrences-push (y ∷ ys) x =
      let others : T → Bool = λ z. not (same y z) in
      ap (λ zs. y ∷ filter others zs) (first_occurrences-push ys x)
      ∙ (elim (cases_Bool (is_in same ys x)) [
        | inl t ↦ ap (λ b. y ∷ filter others (if b then first_occurrences same ys else first_occurrences same ys ++ x
            ∷ [])) t
            ∙ sym (ap (λ b. if b then first_occurrences same (y ∷ ys) else first_occurrences same (y ∷ ys) ++ x ∷ [])
            (ap (λ b. same y x || b) t ∙ or-true (same y x)))
        | inr f ↦ ap (λ b. y ∷ filter others (if b then first_occurrences same ys else first_occurrences same ys ++ x
            ∷ [])) f
            ∙ ap (λ zs. y ∷ zs) (filter-append others (first_occurrences same ys) (x ∷ []))
            ∙ last (same y x)
            ∙ sym (ap (λ b. if (same y x || b) then first_occurrences same (y ∷ ys) else first_occurrences same (y ∷ ys)
            ++ x ∷ []) f)
      ])
    where
      nil : (zs : List T) → zs ++ [] ≡ zs
      nil [] = refl
      nil (z ∷ zs) = ap (λ r. z ∷ r) (nil zs)

      last : (b : Bool)
          → (y ∷ (filter (λ z. not (same y z)) (first_occurrences same ys) ++ (if not b then x ∷ [] else [])))
          ≡ (if (b || false) then first_occurrences same (y ∷ ys) else first_occurrences same (y ∷ ys) ++ x ∷ [])
      last true = ap (λ r. y ∷ r) (nil _)
      last false = refl

  pub is_in-first : ((a b : T) → same a b ≡ true → a ≡ b) → (xs : List T) (x : T)
      → is_in same (first_occurrences same xs) x ≡ is_in same xs x
  is_in-first exact [] x = refl
  is_in-first exact (y ∷ ys) x =
      elim (cases_Bool (same y x)) [
        | inl t ↦ ap (λ b. b || is_in same (filter (λ z. not (same y z)) (first_occurrences same ys)) x) t
            ∙ sym (ap (λ b. b || is_in same ys x) t)
        | inr f ↦ ap (λ b. same y x || b) (others f (first_occurrences same ys) ∙ is_in-first exact ys x)
      ]
    where
      others : same y x ≡ false → (zs : List T) → is_in same (filter (λ z. not (same y z)) zs) x ≡ is_in same zs x
      others f [] = refl
      others f (z ∷ zs) =
          elim (cases_Bool (same y z)) [
            | inl t ↦ ap (λ b. is_in same (cond (not b) (z ∷ filter (λ z. not (same y z)) zs)
                (filter (λ z. not (same y z)) zs)) x) t
                ∙ others f zs
                ∙ sym (ap (λ b. b || is_in same zs x) (ap (λ w. same w x) (sym (exact y z t)) ∙ f))
            | inr n ↦ ap (λ b. is_in same (cond (not b) (z ∷ filter (λ z. not (same y z)) zs)
                (filter (λ z. not (same y z)) zs)) x) n
                ∙ ap (λ b. same z x || b) (others f zs)
          ]

-- ---- one item more
filter-more : {T : Type 0} (p : T → Bool) (xs : List T) (x : T)
    → filter p (xs ++ x ∷ []) ≡ (if p x then filter p xs ++ x ∷ [] else filter p xs)
filter-more {T} p xs x = filter-append p xs (x ∷ [])
    ∙ (elim (p x) as (λ b. filter p xs ++ cond b (x ∷ []) [] ≡ cond b (filter p xs ++ x ∷ []) (filter p xs))
    [ true ↦ refl | false ↦ append-nil (filter p xs) ])

next-more : {T : Type 0} (xs : List T) (i : ℕ) (x : T) → i < length xs → x ≡ get_or xs i x
    → take (i + 1) xs ≡ take i xs ++ x ∷ []
next-more xs i x l here = take_more xs i x l ∙ ap (λ y. take i xs ++ y ∷ []) (sym here)

pub kept-more : {T : Type 0} (p : T → Bool) (xs : List T) (i : ℕ) (x : T) (old new : List T) → i < length xs
    → x ≡ get_or xs i x → old ≡ filter p (take i xs) → new ≡ (if p x then old ++ x ∷ [] else old)
    → new ≡ filter p (take (i + 1) xs)
kept-more p xs i x old new l here so_far added =
    added ∙ ap (λ ys. if p x then ys ++ x ∷ [] else ys) so_far ∙ sym (filter-more p (take i xs) x)
    ∙ ap (filter p) (sym (next-more xs i x l here))

pub gained-more : {T : Type 0} (same : T → T → Bool) → ((a b : T) → same a b ≡ true → a ≡ b)
    → (p : T → Bool) (xs : List T) (i : ℕ) (x : T) (old new : List T) → i < length xs → x ≡ get_or xs i x
    → old ≡ first_occurrences same (filter p (take i xs))
    → new ≡ (if p x && not (is_in same old x) then old ++ x ∷ [] else old)
    → new ≡ first_occurrences same (filter p (take (i + 1) xs))
gained-more {T} same exact p xs i x old new l here so_far added =
    let first = filter p (take i xs) in
    added ∙ ap (λ ys. if p x && not (is_in same ys x) then ys ++ x ∷ [] else ys) so_far
    ∙ ap (λ b. if p x && not b then first_occurrences same first ++ x ∷ [] else first_occurrences same first)
    (is_in-first same exact first x)
    ∙ chosen (first_occurrences same first ++ x ∷ []) (first_occurrences same first) (p x) (is_in same first x)
    ∙ ap (λ zs. if p x then zs else first_occurrences same first) (sym (first_occurrences-push same first x))
    ∙ inside (p x)
    ∙ ap (first_occurrences same) (sym (filter-more p (take i xs) x) ∙ ap (filter p) (sym (next-more xs i x l here)))
  where
    chosen : (more less : List T) (b c : Bool) → (if b && not c then more else less)
        ≡ (if b then (if c then less else more) else less)
    chosen more less true true = refl
    chosen more less true false = refl
    chosen more less false c = refl

    inside : (b : Bool)
        → (if b then first_occurrences same (filter p (take i xs) ++ x ∷ []) else first_occurrences same
        (filter p (take i xs)))
        ≡ first_occurrences same (if b then filter p (take i xs) ++ x ∷ [] else filter p (take i xs))
    inside true = refl
    inside false = refl
