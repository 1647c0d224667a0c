-- No element clashes with an earlier one exactly where no two that are tied differ; and what a store of updates has of
-- an id is of the highest version.
use Rattle.std.proofs.Common.{◌≡◌, ◌==◌, ◌≤◌, ◌&&◌, ◌||◌, List, [], ◌∷◌, ◌++◌, Option, Some, None, Contains, inl, inr, refl, sym, ap, ◌∙◌, subst, append_assoc, append-nil, arith}
use Rattle.std.proofs.lemmas.Bool.{or_parts, ltb-false}
use Rattle.std.proofs.lemmas.List.Elements.{Contains-append_left, Contains-append_right, Contains-append_cases}
use Rattle.std.specs.Prelude.{nat_lt}
use Rattle.elem.specs.ElementValue.{ElementValue}
use Rattle.elem.specs.Order.{text_less}
use Rattle.elem_store.specs.Updates.{element_of, stored_of, are_tied, AreStored, IsFreeOfClashes}
use Rattle.elem_store.proofs.CallerLemmas.{IsBestOf-stored, stored-None, of_itself, Contains-head, find-Some}
use Rattle.clash.specs.Firsts.{IsLikeFirst}
use Rattle.clash.proofs.CallerLemmas.{free-found, AreAlike, tied-alike}
use Rattle.session.specs.Clashes.{HaveClashes}

-- ---- no clashes
-- each element is like the first of those before it
none-like : (before elements : List ElementValue) → HaveClashes before elements 0
    → (front after : List ElementValue) (e : ElementValue) → elements ≡ front ++ e ∷ after
    → IsLikeFirst (before ++ front) e
none-like before [] none front after e is = absurd (nothing front is)
  where
    nothing : (front : List ElementValue) → [] ≡ front ++ e ∷ after → ⊥
    nothing [] is = cc
    nothing (x ∷ front) is = cc
none-like before (x ∷ elements) (inl (like, rest)) [] after e is =
    let same : x ≡ e = cc in
    subst (λ bs. IsLikeFirst bs e) (sym (append-nil before)) (subst (IsLikeFirst before) same like)
none-like before (x ∷ elements) (inl (like, rest)) (y ∷ front) after e is =
    let same : x ≡ y = cc in
    let others : elements ≡ front ++ e ∷ after = cc in
    subst (λ bs. IsLikeFirst bs e) (append_assoc before (x ∷ []) front
    ∙ ap (λ (z : ElementValue). before ++ z ∷ front) same)
    (none-like (before ++ x ∷ []) elements rest front after e others)
none-like before (x ∷ elements) (inr (others, clash, is', rest)) front after e is = absurd (omega (arith, is'))

pub none-free : (elements : List ElementValue) → HaveClashes [] elements 0 → IsFreeOfClashes elements
none-free elements none = (free-found elements).0 (none-like [] elements none)

like-free : (before elements : List ElementValue) (e : ElementValue) → IsFreeOfClashes (before ++ e ∷ elements)
    → IsLikeFirst before e
like-free before elements e free first found =
    let at = find-Some (are_tied e) before first found in
    sym (free e first (Contains-append_right before (e ∷ elements) e (Contains-head e elements))
    (Contains-append_left before (e ∷ elements) first at.0) at.1)

free-none : (before elements : List ElementValue) → IsFreeOfClashes (before ++ elements) → HaveClashes before elements 0
free-none before [] free = refl
free-none before (e ∷ elements) free =
    inl (
      like-free before elements e free,
      free-none (before ++ e ∷ []) elements (subst IsFreeOfClashes (sym (append_assoc before (e ∷ []) elements)) free),
    )

pub free-of-clashes : (elements : List ElementValue) → IsFreeOfClashes elements → HaveClashes [] elements 0
free-of-clashes elements free = free-none [] elements free

-- ---- elements behind others
-- where those behind are apart from those before, and are the only ones of their ids
pub free-more : (elements more : List ElementValue) → IsFreeOfClashes elements
    → ((e x : ElementValue) → Contains more e → Contains elements x → AreAlike e x → ⊥)
    → ((e other : ElementValue) → Contains more e → Contains more other → e.id ≡ other.id → e ≡ other)
    → IsFreeOfClashes (elements ++ more)
free-more elements more free apart one e other among also tied =
    let alike = tied-alike e other tied in
    elim (Contains-append_cases elements more e among) [
      | inl first ↦ elim (Contains-append_cases elements more other also) [
        | inl second ↦ free e other first second tied
        | inr behind ↦ absurd (apart other e behind first (record {
          id = sym alike.id;
          version = sym alike.version;
          nonce = sym alike.nonce;
        }))
      ]
      | inr later ↦ elim (Contains-append_cases elements more other also) [
        | inl second ↦ absurd (apart e other later second alike)
        | inr behind ↦ one e other later behind alike.id
      ]
    ]

-- ---- what is stored of an update's id
pub record IsCovered (elements : List ElementValue) (e : ElementValue) : Type 0 where
  pub old : ElementValue
  pub found : element_of elements e.id ≡ Some old
  pub least : e.version ≤ old.version

pub covered : (updates elements : List ElementValue) (e : ElementValue) → AreStored updates elements
    → Contains updates e → IsCovered elements e
covered updates elements e are c = go (stored_of updates e.id) refl
  where
    go : (o : Option ElementValue) → stored_of updates e.id ≡ o → IsCovered elements e
    go None is = absurd (stored-None updates e.id e is c (of_itself e))
    go (Some old) is =
        let unbeaten = (IsBestOf-stored updates e.id old is).unbeaten e c (of_itself e) in
        let parts = or_parts (nat_lt old.version e.version) ((e.version == old.version)
        && (nat_lt e.nonce old.nonce || ((e.nonce == old.nonce) && text_less e old))) unbeaten in
        record { old = old; found = are.each e.id ∙ is; least = ltb-false old.version e.version parts.0 }
