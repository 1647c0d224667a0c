-- The places of marks after one element more.
use Rattle.std.proofs.Common.{◌≡◌, inl, inr, ℕ, zero, suc, ◌<◌, true, false, cond, ◌&&◌, ◌==◌, List, [], ◌∷◌, ◌++◌, length, get_or, Option, Some, None, IfSome, slice_get, find, bytes_eq, nat_cmp, refl, sym, ap, subst, ◌∙◌, arith, length-append}
use Rattle.std.specs.BTreeMap.{is_at}
use Rattle.std.specs.Cmp.{both_tied, unsigned_ties}
use Rattle.std.specs.Cmp.Lexicographic.{slice_cmp, texts_ties}
use Rattle.std.specs.Option.{option_and_then, option_or}
use Rattle.std.specs.Ordering.{is_eq, ordering_then}
use Rattle.std.proofs.lemmas.Bool.{cases_Bool, and_from, and_parts, both_ways, cond-true, cond-false, false_from_ne_true, eq-eqb, eqb-true}
use Rattle.std.proofs.lemmas.List.Folds.{find-append}
use Rattle.std.proofs.lemmas.Option.{slice_get-get_or}
use Rattle.std.proofs.lemmas.Slice.Eq.{bytes_eq-Decides}
use Rattle.elem.specs.ElementValue.{ElementValue}
use Rattle.elem_store.proofs.CallerLemmas.{get-last}
use Rattle.clash.specs.inner.Marks.{Mark, mark_of, is_marked, mark_cmp, place_of, AreListed}

-- ---- equal marks
marks-tied : (a b : Mark) → ((bytes_eq a.0 b.0 && (a.1 == b.1)) && (a.2 == b.2)) ≡ is_eq (mark_cmp a b)
marks-tied a b =
    both_tied _ _ (ordering_then (slice_cmp nat_cmp a.0 b.0) (nat_cmp a.1 b.1)) (nat_cmp a.2 b.2)
    (both_tied _ _ (slice_cmp nat_cmp a.0 b.0) (nat_cmp a.1 b.1) (texts_ties a.0 b.0) (unsigned_ties a.1 b.1))
    (unsigned_ties a.2 b.2)

same-parts : (a b : Mark) → a.0 ≡ b.0 → a.1 ≡ b.1 → a.2 ≡ b.2 → a ≡ b
same-parts a b p q r = λ i. (p i, q i, r i)

same-mark : (a b : Mark) → is_eq (mark_cmp a b) ≡ true → a ≡ b
same-mark a b h =
    let outer = and_parts (bytes_eq a.0 b.0 && (a.1 == b.1)) (a.2 == b.2) (marks-tied a b ∙ h) in
    let inner = and_parts (bytes_eq a.0 b.0) (a.1 == b.1) outer.0 in
    same-parts a b ((bytes_eq-Decides a.0 b.0).0 inner.0) (eqb-true a.1 b.1 inner.1) (eqb-true a.2 b.2 outer.1)

tied-itself : (a : Mark) → is_eq (mark_cmp a a) ≡ true
tied-itself a =
    sym (marks-tied a a)
    ∙ and_from (bytes_eq a.0 a.0 && (a.1 == a.1)) (a.2 == a.2)
    (and_from (bytes_eq a.0 a.0) (a.1 == a.1) ((bytes_eq-Decides a.0 a.0).1 refl) (eq-eqb a.1 a.1 refl))
    (eq-eqb a.2 a.2 refl)

marked-same : (q : Mark) (e : ElementValue) → is_marked q e ≡ true → q ≡ mark_of e
marked-same q e h =
    let outer = and_parts (bytes_eq q.0 e.id) ((q.1 == e.version) && (q.2 == e.nonce)) h in
    let inner = and_parts (q.1 == e.version) (q.2 == e.nonce) outer.1 in
    same-parts q (mark_of e) ((bytes_eq-Decides q.0 e.id).0 outer.0) (eqb-true q.1 e.version inner.0)
    (eqb-true q.2 e.nonce inner.1)

pub marked-itself : (e : ElementValue) → is_marked (mark_of e) e ≡ true
marked-itself e =
    and_from (bytes_eq e.id e.id) ((e.version == e.version) && (e.nonce == e.nonce))
    ((bytes_eq-Decides e.id e.id).1 refl)
    (and_from (e.version == e.version) (e.nonce == e.nonce) (eq-eqb e.version e.version refl)
    (eq-eqb e.nonce e.nonce refl))

-- ---- one element more

get-within : (xs : List ElementValue) (x : ElementValue) (i : ℕ) → i < length xs
    → slice_get (xs ++ x ∷ []) i ≡ slice_get xs i
get-within [] x i l = absurd (omega arith)
get-within (y ∷ xs) x zero l = refl
get-within (y ∷ xs) x (suc i) l = get-within xs x i (omega arith)

get-kept : (xs : List ElementValue) (x : ElementValue) (o : Option ℕ) → IfSome o (λ i. i < length xs)
    → option_and_then (slice_get (xs ++ x ∷ [])) o ≡ option_and_then (slice_get xs) o
get-kept xs x None l = refl
get-kept xs x (Some i) l = get-within xs x i l

within-kept : (xs : List ElementValue) (x : ElementValue) (o : Option ℕ) → IfSome o (λ i. i < length xs)
    → IfSome o (λ i. i < length (xs ++ x ∷ []))
within-kept xs x None l = tt
within-kept xs x (Some i) l = omega (arith, l, length-append xs (x ∷ []))

or-none : (o : Option ElementValue) → option_or o None ≡ o
or-none None = refl
or-none (Some x) = refl

module _ (firsts : List ElementValue) (old new : List (Mark × ℕ)) (e : ElementValue) (listed : AreListed firsts old)
    (none : place_of old (mark_of e) ≡ None)
    (updates : (q : Mark) → place_of new q ≡ cond (is_at (mark_cmp (mark_of e)) q) (Some (length firsts))
    (place_of old q)) where
  IsListed : Mark → Type 0
  IsListed q =
      IfSome (place_of new q) (λ i. i < length (firsts ++ e ∷ []))
      × (option_and_then (slice_get (firsts ++ e ∷ [])) (place_of new q) ≡ find (is_marked q) (firsts ++ e ∷ []))

  own : (q : Mark) → is_at (mark_cmp (mark_of e)) q ≡ true → IsListed q
  unfolding IsListed
  own q t =
      let here = updates q ∙ cond-true (is_at (mark_cmp (mark_of e)) q) (Some (length firsts)) (place_of old q) t in
      let same = same-mark (mark_of e) q t in
      let absent = subst (λ m. find (is_marked m) firsts ≡ None) same (sym (listed.each (mark_of e))
      ∙ ap (option_and_then (slice_get firsts)) none) in
      let is = subst (λ m. is_marked m e ≡ true) same (marked-itself e) in (
        subst (λ o. IfSome o (λ i. i < length (firsts ++ e ∷ []))) (sym here)
            (omega (arith, length-append firsts (e ∷ []))),
        ap (option_and_then (slice_get (firsts ++ e ∷ []))) here ∙ get-last firsts e
            ∙ sym (find-append (is_marked q) firsts (e ∷ [])
            ∙ ap (λ o. option_or o (find (is_marked q) (e ∷ []))) absent
            ∙ cond-true (is_marked q e) (Some e) None is),
      )

  others : (q : Mark) → is_at (mark_cmp (mark_of e)) q ≡ false → IsListed q
  unfolding IsListed
  others q f =
      let here = updates q ∙ cond-false (is_at (mark_cmp (mark_of e)) q) (Some (length firsts)) (place_of old q) f in
      let other = false_from_ne_true (is_marked q e) (λ t. both_ways (is_at (mark_cmp (mark_of e)) q) f
      (subst (λ m. is_eq (mark_cmp (mark_of e) m) ≡ true) (sym (marked-same q e t)) (tied-itself (mark_of e)))) in (
        subst (λ o. IfSome o (λ i. i < length (firsts ++ e ∷ []))) (sym here)
            (within-kept firsts e (place_of old q) (listed.within q)),
        ap (option_and_then (slice_get (firsts ++ e ∷ []))) here ∙ get-kept firsts e (place_of old q) (listed.within q)
            ∙ listed.each q
            ∙ sym (find-append (is_marked q) firsts (e ∷ [])
            ∙ ap (option_or (find (is_marked q) firsts)) (cond-false (is_marked q e) (Some e) None other)
            ∙ or-none (find (is_marked q) firsts)),
      )

  each-listed : (q : Mark) → IsListed q
  each-listed q = elim (cases_Bool (is_at (mark_cmp (mark_of e)) q)) [ inl t ↦ own q t | inr f ↦ others q f ]

  pub AreListed-added : AreListed (firsts ++ e ∷ []) new
  unfolding IsListed
  AreListed-added = record { within = λ q. (each-listed q).0; each = λ q. (each-listed q).1 }

-- ---- the first element of a mark
pub found-first : (firsts : List ElementValue) (places : List (Mark × ℕ)) (mark : Mark) (e first : ElementValue) (i : ℕ)
    → AreListed firsts places → mark ≡ mark_of e → Some i ≡ place_of places mark → first ≡ get_or firsts i first
    → find (is_marked (mark_of e)) firsts ≡ Some first
found-first firsts places mark e first i listed same at is =
    let within : IfSome (Some i) (λ j. j < length firsts) =
    subst (λ o. IfSome o (λ j. j < length firsts)) (sym at) (listed.within mark) in
    ap (λ m. find (is_marked m) firsts) (sym same) ∙ sym (listed.each mark)
    ∙ ap (option_and_then (slice_get firsts)) (sym at)
    ∙ slice_get-get_or firsts i first within ∙ ap Some (sym is)

pub found-none : (firsts : List ElementValue) (places : List (Mark × ℕ)) (mark : Mark) (e : ElementValue)
    → AreListed firsts places → mark ≡ mark_of e → None ≡ place_of places mark
    → find (is_marked (mark_of e)) firsts ≡ None
found-none firsts places mark e listed same at =
    ap (λ m. find (is_marked m) firsts) (sym same) ∙ sym (listed.each mark)
    ∙ ap (option_and_then (slice_get firsts)) (sym at)
