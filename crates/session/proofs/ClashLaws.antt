-- Counted clashes: of two lists one after the other, and of one element more.
use Rattle.std.proofs.Common.{◌≡◌, ℕ, ◌+◌, ◌<◌, List, [], ◌∷◌, ◌++◌, length, get_or, take, Bool, true, false, if◌then◌else◌, MatchBool, flat_map, inl, inr, refl, sym, ap, ◌∙◌, subst, append_assoc, append-nil, arith}
use Rattle.std.proofs.lemmas.Grind.{flat_map-append}
use Rattle.std.proofs.lemmas.List.{take_more}
use Rattle.elem.specs.ElementValue.{ElementValue}
use Rattle.clash.specs.Firsts.{HasClash, IsLikeFirst, firsts_of, firsts_with}
use Rattle.clash.proofs.CallerLemmas.{firsts-tell, firsts-more}
use Rattle.session.specs.Clashes.{HaveClashes}

-- ---- two lists
pub clashes-append : (before xs ys : List ElementValue) (m n : ℕ) → HaveClashes before xs m
    → HaveClashes (before ++ xs) ys n → HaveClashes before (xs ++ ys) (m + n)
clashes-append before [] ys m n none have =
    let is : n ≡ m + n = omega (arith, none) in
    subst (λ count. HaveClashes before ys count) is (subst (λ bs. HaveClashes bs ys n) (append-nil before) have)
clashes-append before (x ∷ xs) ys m n (inl (like, rest)) have =
    inl (
      like,
      clashes-append (before ++ x ∷ []) xs ys m n rest
          (subst (λ bs. HaveClashes bs ys n) (sym (append_assoc before (x ∷ []) xs)) have),
    )
clashes-append before (x ∷ xs) ys m n (inr (others, clash, is, rest)) have =
    let counted : m + n ≡ (others + n) + 1 = omega (arith, is) in
    inr (
      others + n,
      clash,
      counted,
      clashes-append (before ++ x ∷ []) xs ys others n rest
          (subst (λ bs. HaveClashes bs ys n) (sym (append_assoc before (x ∷ []) xs)) have),
    )

-- ---- one more
pub clash-more : (before xs : List ElementValue) (e : ElementValue) (m : ℕ) → HaveClashes before xs m
    → HasClash (before ++ xs) e → HaveClashes before (xs ++ e ∷ []) (m + 1)
clash-more before xs e m have clash = clashes-append before xs (e ∷ []) m 1 have (inr (0, clash, refl, refl))

pub like-more : (before xs : List ElementValue) (e : ElementValue) (m : ℕ) → HaveClashes before xs m
    → IsLikeFirst (before ++ xs) e → HaveClashes before (xs ++ e ∷ []) m
like-more before xs e m have like =
    let is : m + 0 ≡ m = omega arith in
    subst (λ count. HaveClashes before (xs ++ e ∷ []) count) is
    (clashes-append before xs (e ∷ []) m 0 have (inl (like, refl)))

-- ---- the number
pub clashes-same : (before elements : List ElementValue) (m n : ℕ) → HaveClashes before elements m
    → HaveClashes before elements n → m ≡ n
clashes-same before [] m n h k = h ∙ sym k
clashes-same before (e ∷ elements) m n (inl (like, rest)) (inl (like', rest')) =
    clashes-same (before ++ e ∷ []) elements m n rest rest'
clashes-same before (e ∷ elements) m n (inl (like, rest)) (inr (others, clash, is, rest')) =
    absurd (clash.2 (like clash.0 clash.1))
clashes-same before (e ∷ elements) m n (inr (others, clash, is, rest)) (inl (like, rest')) =
    absurd (clash.2 (like clash.0 clash.1))
clashes-same before (e ∷ elements) m n (inr (others, clash, is, rest)) (inr (others', clash', is', rest')) =
    is ∙ ap (λ k. k + 1) (clashes-same (before ++ e ∷ []) elements others others' rest rest') ∙ sym is'

-- ---- what is noted tells
pub firsts_with-clash : (before : List ElementValue) (e : ElementValue) → HasClash (firsts_of before) e
    → HasClash before e
firsts_with-clash before e clash = (clash.0, sym (firsts-tell before e) ∙ clash.1, clash.2)

pub firsts_with-like : (before : List ElementValue) (e : ElementValue) → IsLikeFirst (firsts_of before) e
    → IsLikeFirst before e
firsts_with-like before e like first found = like first (firsts-tell before e ∙ found)

pub firsts_with-more : (before xs : List ElementValue) (e : ElementValue) (old new : List ElementValue)
    → old ≡ firsts_of (before ++ xs) → new ≡ firsts_with old e → new ≡ firsts_of (before ++ (xs ++ e ∷ []))
firsts_with-more before xs e old new was is =
    is ∙ ap (λ fs. firsts_with fs e) was ∙ sym (firsts-more (before ++ xs) e)
    ∙ ap firsts_of (append_assoc before xs (e ∷ []))

-- ---- one turn of a walk
module _ (before elements : List ElementValue) (i : ℕ) (e : ElementValue) (within : i < length elements) (here : e
    ≡ get_or elements i e) where
  one-more : take (i + 1) elements ≡ take i elements ++ e ∷ []
  one-more = take_more elements i e within ∙ ap (λ x. take i elements ++ x ∷ []) (sym here)

  pub firsts_with-step : (old new : List ElementValue) → old ≡ firsts_of (before ++ take i elements)
      → new ≡ firsts_with old e → new ≡ firsts_of (before ++ take (i + 1) elements)
  firsts_with-step old new was is =
      firsts_with-more before (take i elements) e old new was is ∙ ap (λ es. firsts_of (before ++ es)) (sym one-more)

  pub counted-step : (old : List ElementValue) (b : Bool) (count new : ℕ) → old ≡ firsts_of (before ++ take i elements)
      → HaveClashes before (take i elements) count
      → MatchBool b (HasClash old e) (IsLikeFirst old e) → new ≡ (if b then count + 1 else count)
      → HaveClashes before (take (i + 1) elements) new
  counted-step old true count new was have clash is =
      subst (λ n. HaveClashes before (take (i + 1) elements) n) (sym is)
      (subst (λ es. HaveClashes before es (count + 1)) (sym one-more)
      (clash-more before (take i elements) e count have
      (firsts_with-clash (before ++ take i elements) e (subst (λ fs. HasClash fs e) was clash))))
  counted-step old false count new was have like is =
      subst (λ n. HaveClashes before (take (i + 1) elements) n) (sym is)
      (subst (λ es. HaveClashes before es count) (sym one-more)
      (like-more before (take i elements) e count have
      (firsts_with-like (before ++ take i elements) e (subst (λ fs. IsLikeFirst fs e) was like))))

abbrev pub flat : List (List ElementValue) → List ElementValue
flat messages = flat_map (λ (message : List ElementValue). message) messages

pub flat-more : (messages : List (List ElementValue)) (message : List ElementValue)
    → flat (messages ++ message ∷ []) ≡ flat messages ++ message
flat-more messages message =
    flat_map-append (λ (m : List ElementValue). m) messages (message ∷ [])
    ∙ ap (λ es. flat messages ++ es) (append-nil message)

-- one message more
module _ (opening : List ElementValue) (messages : List (List ElementValue)) (i : ℕ) (message : List ElementValue)
    (within : i < length messages) (here : message ≡ get_or messages i message) where
  pub message-more : opening ++ flat (take (i + 1) messages) ≡ (opening ++ flat (take i messages)) ++ message
  message-more =
      ap (λ ms. opening ++ flat ms) (take_more messages i message within
      ∙ ap (λ (m : List ElementValue). take i messages ++ m ∷ []) (sym here))
      ∙ ap (λ es. opening ++ es) (flat-more (take i messages) message)
      ∙ sym (append_assoc opening (flat (take i messages)) message)

  pub message-counted : (count more new : ℕ) → HaveClashes [] (opening ++ flat (take i messages)) count
      → HaveClashes (opening ++ flat (take i messages)) message more → new ≡ count + more
      → HaveClashes [] (opening ++ flat (take (i + 1) messages)) new
  message-counted count more new have also is =
      subst (λ n. HaveClashes [] (opening ++ flat (take (i + 1) messages)) n) (sym is)
      (subst (λ es. HaveClashes [] es (count + more)) (sym message-more)
      (clashes-append [] (opening ++ flat (take i messages)) message count more have also))
