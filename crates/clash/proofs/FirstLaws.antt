-- First elements, and clashes with them.
use Rattle.std.proofs.Common.{◌≡◌, inl, inr, zero, suc, Bool, true, false, cond, not, ◌&&◌, ◌==◌, List, [], ◌∷◌, ◌++◌, Option, Some, None, is_some, Contains, MatchBool, IsTrue, ◌↔◌, find, filter, bytes_eq, refl, sym, ap, subst, ◌∙◌, append_assoc, append-nil, arith}
use Rattle.std.specs.Option.{option_or}
use Rattle.std.proofs.lemmas.Bool.{cases_Bool, and_parts, both_ways, cond-true, cond-false, false_from_ne_true, eqb-true, not_from_false}
use Rattle.std.proofs.lemmas.List.Elements.{filter-append, Contains-append_left, Contains-append_right}
use Rattle.std.proofs.lemmas.List.Folds.{find-append}
use Rattle.std.proofs.lemmas.Option.{same_Some}
use Rattle.std.proofs.lemmas.Slice.Eq.{bytes_eq-Decides}
use Rattle.elem.specs.ElementValue.{ElementValue}
use Rattle.elem_store.specs.Updates.{are_tied, IsFreeOfClashes}
use Rattle.elem_store.proofs.CallerLemmas.{find-Some, Contains-head}
use Rattle.clash.specs.Firsts.{first_tied, HasClash, IsLikeFirst, firsts_with, firsts_of}
use Rattle.clash.proofs.MarkLaws.{marked-itself}

-- ---- ties
pub record AreAlike (e other : ElementValue) : Type 0 where
  pub id : e.id ≡ other.id
  pub version : e.version ≡ other.version
  pub nonce : e.nonce ≡ other.nonce

pub tied-alike : (e other : ElementValue) → are_tied e other ≡ true → AreAlike e other
tied-alike e other h =
    let outer = and_parts (bytes_eq e.id other.id) ((e.version == other.version) && (e.nonce == other.nonce)) h in
    let inner = and_parts (e.version == other.version) (e.nonce == other.nonce) outer.1 in
    record {
      id = (bytes_eq-Decides e.id other.id).0 outer.0;
      version = eqb-true e.version other.version inner.0;
      nonce = eqb-true e.nonce other.nonce inner.1;
    }

-- what is tied to one of two that are tied is tied to the other
tied-same : (e other x : ElementValue) → are_tied e other ≡ true → are_tied e x ≡ are_tied other x
tied-same e other x h =
    let a = tied-alike e other h in
    λ i. bytes_eq (a.id i) x.id && ((a.version i == x.version) && (a.nonce i == x.nonce))

-- ---- what a test finds where another one filters
find-kept : (p q : ElementValue → Bool) (xs : List ElementValue) → ((x : ElementValue) → q x ≡ true → p x ≡ true)
    → find q (filter p xs) ≡ find q xs
find-kept p q [] h = refl
find-kept p q (x ∷ xs) h =
    elim (cases_Bool (p x)) [
      | inl t ↦ ap (find q) (cond-true (p x) (x ∷ filter p xs) (filter p xs) t)
          ∙ ap (cond (q x) (Some x)) (find-kept p q xs h)
      | inr f ↦ ap (find q) (cond-false (p x) (x ∷ filter p xs) (filter p xs) f) ∙ find-kept p q xs h
          ∙ sym (cond-false (q x) (Some x) (find q xs) (false_from_ne_true (q x) (λ t. both_ways (p x) f (h x t))))
    ]

abbrev is_new : ElementValue → ElementValue → Bool
is_new e other = not (are_tied other e)

-- what is tied to an element isn't tied to one that the element isn't tied to
still-new : (e x other : ElementValue) → are_tied e x ≡ false → are_tied e other ≡ true → is_new x other ≡ true
still-new e x other apart tied =
    not_from_false (are_tied other x) (false_from_ne_true (are_tied other x)
    (λ t. both_ways (are_tied e x) apart (tied-same e other x tied ∙ t)))

pub firsts-tell : (elements : List ElementValue) (e : ElementValue)
    → first_tied (firsts_of elements) e ≡ first_tied elements e
firsts-tell [] e = refl
firsts-tell (x ∷ elements) e =
    elim (cases_Bool (are_tied e x)) [
      | inl t ↦ cond-true (are_tied e x) (Some x) (find (are_tied e) (filter (is_new x) (firsts_of elements))) t
          ∙ sym (cond-true (are_tied e x) (Some x) (find (are_tied e) elements) t)
      | inr f ↦ ap (cond (are_tied e x) (Some x)) (find-kept (is_new x) (are_tied e) (firsts_of elements)
          (λ other. still-new e x other f) ∙ firsts-tell elements e)
    ]

-- ---- one element more
pub firsts-more : (elements : List ElementValue) (e : ElementValue)
    → firsts_of (elements ++ e ∷ []) ≡ firsts_with (firsts_of elements) e
firsts-more [] e = refl
firsts-more (x ∷ elements) e =
    ap (λ es. x ∷ filter (is_new x) es) (firsts-more elements e)
    ∙ elim (cases_Bool (are_tied e x)) [ inl t ↦ tied t | inr f ↦ apart f ]
  where
    fs : List ElementValue
    fs = firsts_of elements

    pushed : filter (is_new x) (firsts_of elements ++ e ∷ []) ≡ filter (is_new x) (firsts_of elements)
        ++ filter (is_new x) (e ∷ [])
    pushed = filter-append (is_new x) (firsts_of elements) (e ∷ [])

    tied : are_tied e x ≡ true → x ∷ filter (is_new x) (firsts_with (firsts_of elements) e)
        ≡ firsts_with (x ∷ filter (is_new x) (firsts_of elements)) e
    tied t =
        let found : is_some (first_tied (x ∷ filter (is_new x) (firsts_of elements)) e) ≡ true =
        ap is_some (cond-true (are_tied e x) (Some x) (find (are_tied e) (filter (is_new x) (firsts_of elements)))
        t) in
        ap (λ es. x ∷ es) (elim (is_some (first_tied (firsts_of elements) e)) as
        (λ b. filter (is_new x) (cond b (firsts_of elements) (firsts_of elements ++ e ∷ []))
        ≡ filter (is_new x) (firsts_of elements)) [
          | true ↦ refl
          | false ↦ pushed ∙ ap (λ es. filter (is_new x) (firsts_of elements) ++ es)
              (cond-false (is_new x e) (e ∷ []) [] (ap not t)) ∙ append-nil (filter (is_new x) (firsts_of elements))
        ])
        ∙ sym (cond-true (is_some (first_tied (x ∷ filter (is_new x) (firsts_of elements)) e))
        (x ∷ filter (is_new x) (firsts_of elements)) ((x ∷ filter (is_new x) (firsts_of elements)) ++ e ∷ []) found)

    apart : are_tied e x ≡ false → x ∷ filter (is_new x) (firsts_with (firsts_of elements) e)
        ≡ firsts_with (x ∷ filter (is_new x) (firsts_of elements)) e
    apart f =
        let same : is_some (first_tied (x ∷ filter (is_new x) (firsts_of elements)) e)
        ≡ is_some (first_tied (firsts_of elements) e) =
        ap is_some (cond-false (are_tied e x) (Some x) (find (are_tied e) (filter (is_new x) (firsts_of elements))) f
        ∙ find-kept (is_new x) (are_tied e) (firsts_of elements) (λ other. still-new e x other f)) in
        (elim (is_some (first_tied (firsts_of elements) e)) as
        (λ b. x ∷ filter (is_new x) (cond b (firsts_of elements) (firsts_of elements ++ e ∷ []))
        ≡ cond b (x ∷ filter (is_new x) (firsts_of elements)) ((x ∷ filter (is_new x) (firsts_of elements)) ++ e
        ∷ [])) [
          | true ↦ refl
          | false ↦ ap (λ es. x ∷ es) (pushed
              ∙ ap (λ es. filter (is_new x) (firsts_of elements) ++ es)
              (cond-true (is_new x e) (e ∷ []) [] (ap not f)))
        ])
        ∙ ap (λ b. cond b (x ∷ filter (is_new x) (firsts_of elements)) ((x ∷ filter (is_new x) (firsts_of elements))
        ++ e ∷ [])) (sym same)

pub firsts_with-found : (firsts : List ElementValue) (e first : ElementValue) → first_tied firsts e ≡ Some first
    → firsts ≡ firsts_with firsts e
firsts_with-found firsts e first found =
    sym (cond-true (is_some (first_tied firsts e)) firsts (firsts ++ e ∷ []) (ap is_some found))

-- ---- clashes
pub clash-told : (elements : List ElementValue) (e first : ElementValue) (b : Bool)
    → first_tied elements e ≡ Some first
    → IsTrue b ↔ (first ≡ e) → MatchBool (not b) (HasClash elements e) (IsLikeFirst elements e)
clash-told elements e first true found same = λ other is. same_Some other first (sym is ∙ found) ∙ same.0 refl
clash-told elements e first false found same = (first, found, λ is. both_ways false refl (same.1 is))

found-own : (before xs : List ElementValue) (e : ElementValue)
    → ((b a : List ElementValue) (x : ElementValue) → xs ≡ b ++ x ∷ a → IsLikeFirst (before ++ b) x) → Contains xs e
    → find (are_tied e) (before ++ xs) ≡ Some e
found-own before [] e like (k, l, is) = absurd (omega arith)
found-own before (x ∷ xs) e like (zero, l, is) =
    find-append (are_tied e) before (x ∷ xs)
    ∙ ap (option_or (find (are_tied e) before)) (ap (λ y. find (are_tied e) (y ∷ xs)) is
    ∙ cond-true (are_tied e e) (Some e) (find (are_tied e) xs) (marked-itself e))
    ∙ first-or (find (are_tied e) before) refl
  where
    first-or : (o : Option ElementValue) → find (are_tied e) before ≡ o → option_or o (Some e) ≡ Some e
    first-or None h = refl
    first-or (Some f) h =
        ap Some (subst (λ (y : ElementValue). f ≡ y) is
        (like [] xs x refl f (ap (find (are_tied x)) (append-nil before)
        ∙ ap (λ (y : ElementValue). find (are_tied y) before) is ∙ h)))
found-own before (x ∷ xs) e like (suc k, l, is) =
    ap (find (are_tied e)) (sym (append_assoc before (x ∷ []) xs))
    ∙ found-own (before ++ x ∷ []) xs e
    (λ b a y parts. subst (λ bs. IsLikeFirst bs y) (sym (append_assoc before (x ∷ []) b))
    (like (x ∷ b) a y (ap (λ ys. x ∷ ys) parts))) (k, omega arith, is)

pub free-found : (elements : List ElementValue)
    → ((before after : List ElementValue) (e : ElementValue) → elements ≡ before ++ e ∷ after → IsLikeFirst before e)
    ↔ IsFreeOfClashes elements
free-found elements = (
  λ like e other among also tied.
      same_Some e other
      (sym (found-own [] elements e like among) ∙ ap (λ test. find test elements) (λ i x. tied-same e other x tied i)
      ∙ found-own [] elements other like also),
  λ free before after e parts first found.
      let first_is = find-Some (are_tied e) before first found in
      sym (free e first
      (subst (λ es. Contains es e) (sym parts) (Contains-append_right before (e ∷ after) e (Contains-head e after)))
      (subst (λ es. Contains es first) (sym parts) (Contains-append_left before (e ∷ after) first first_is.0))
      first_is.1),
)
