-- Of every list of updates there is a store.
use Rattle.std.proofs.Common.{◌≡◌, ℕ, Bool, true, false, cond, ◌&&◌, inl, inr, List, [], ◌∷◌, ◌++◌, Option, Some, None, bytes_eq, is_lt, nat_cmp, if◌then◌else◌, refl, sym, ap, subst, ◌∙◌, append_assoc, append-nil}
use Rattle.std.specs.Cmp.Lexicographic.{slice_cmp}
use Rattle.std.specs.Ordering.{match_ordering}
use Rattle.std.specs.declared.cmp.Ordering.TheVariants.{Less, Equal, Greater}
use Rattle.std.proofs.lemmas.Bool.{cases_Bool, and_parts, and_from}
use Rattle.json_text.proofs.CallerLemmas.{bytes_eq-true}
use Rattle.scene_json.proofs.CallerLemmas.{bytes_eq-less, bytes_eq-tied, less_turned}
use Rattle.frac_keys.specs.Rising.{ends_rise, rise_between, are_rising}
use Rattle.elem.specs.ElementValue.{ElementValue}
use Rattle.elem.specs.Order.{has_id}
use Rattle.elem_store.specs.Updates.{element_of, ids_of, is_taken, stored_of, AreStored, HasTaken}
use Rattle.elem_store.proofs.Edits.{HasTaken-not}
use Rattle.elem_store.proofs.StoreLaws.{AreStored-push}

-- ---- an element that takes its place
abbrev put : ElementValue → List ElementValue → List ElementValue
put e [] = e ∷ []
put e (f ∷ fs) = match_ordering (slice_cmp nat_cmp e.id f.id) (e ∷ f ∷ fs) (e ∷ fs) (f ∷ put e fs)

put-rises : (low : Option (List ℕ)) (e : ElementValue) (fs : List ElementValue) → ends_rise low (Some e.id) ≡ true
    → rise_between low None (ids_of fs) ≡ true → rise_between low None (ids_of (put e fs)) ≡ true
put-rises low e [] above rise = and_from _ _ above refl
put-rises low e (f ∷ fs) above rise =
    let parts = and_parts (ends_rise low (Some f.id)) (rise_between (Some f.id) None (ids_of fs)) rise in
    elim (slice_cmp nat_cmp e.id f.id) as (λ o. slice_cmp nat_cmp e.id f.id ≡ o
    → rise_between low None (ids_of (match_ordering o (e ∷ f ∷ fs) (e ∷ fs) (f ∷ put e fs))) ≡ true) [
      | Less ↦ λ less. and_from _ _ above (and_from _ _ (ap is_lt less) parts.1)
      | Equal ↦ λ tied. and_from _ _ above (subst (λ id. rise_between (Some id) None (ids_of fs) ≡ true)
          (sym (bytes_eq-true e.id f.id (bytes_eq-tied e.id f.id tied))) parts.1)
      | Greater ↦ λ more. and_from _ _ parts.0 (put-rises (Some f.id) e fs (ap is_lt (less_turned e.id f.id more))
          parts.1)
    ] refl

put-at : (id : List ℕ) (e : ElementValue) (fs : List ElementValue)
    → element_of (put e fs) id ≡ cond (has_id id e) (Some e) (element_of fs id)
put-at id e [] = refl
put-at id e (f ∷ fs) =
    elim (slice_cmp nat_cmp e.id f.id) as (λ o. slice_cmp nat_cmp e.id f.id ≡ o →
    element_of (match_ordering o (e ∷ f ∷ fs) (e ∷ fs) (f ∷ put e fs)) id
    ≡ cond (has_id id e) (Some e) (element_of (f ∷ fs) id)) [
      | Less ↦ λ less. refl
      | Equal ↦ λ tied. elim (cases_Bool (bytes_eq id e.id)) [
        | inl own ↦ rw own refl
        | inr other ↦
            let also : bytes_eq id f.id ≡ false =
            subst (λ x. bytes_eq id x ≡ false) (bytes_eq-true e.id f.id (bytes_eq-tied e.id f.id tied)) other in
            rw (other, also) refl
      ]
      | Greater ↦ λ more. elim (cases_Bool (bytes_eq id f.id)) [
        | inl first ↦
            let other : bytes_eq id e.id ≡ false =
            subst (λ x. bytes_eq x e.id ≡ false) (sym (bytes_eq-true id f.id first))
            (bytes_eq-less f.id e.id (less_turned e.id f.id more)) in
            rw (first, other) refl
        | inr later ↦ rw later (put-at id e fs)
      ]
    ] refl

-- ---- one update more, and all of them
pub taken : (elements : List ElementValue) (e : ElementValue) → are_rising (ids_of elements) ≡ true
    → (new : List ElementValue) × HasTaken elements e new
taken elements e rise = elim (cases_Bool (is_taken elements e)) [
  | inl takes ↦ (
    put e elements,
    record {
      ordered = put-rises None e elements refl rise;
      each = λ id. put-at id e elements ∙ rw takes (both (has_id id e) (Some e) (element_of elements id));
    },
  )
  | inr stays ↦ (elements, HasTaken-not elements e rise stays)
]
  where
    both : (b : Bool) (x y : Option ElementValue) → cond b x y ≡ (if b && true then x else y)
    both true x y = refl
    both false x y = refl

stored-behind : (done elements updates : List ElementValue) → AreStored done elements → (all : List ElementValue)
    × AreStored (done ++ updates) all
stored-behind done elements [] are = (elements, subst (λ us. AreStored us elements) (sym (append-nil done)) are)
stored-behind done elements (e ∷ updates) are =
    let next = taken elements e are.ordered in
    let rest = stored-behind (done ++ e ∷ []) next.0 updates (AreStored-push done elements next.0 e are next.1) in
    (rest.0, subst (λ us. AreStored us rest.0) (append_assoc done (e ∷ []) updates) rest.1)

none : AreStored [] []
unfolding stored_of
none = record { ordered = refl; each = λ id. refl }

pub stored-exist : (updates : List ElementValue) → (elements : List ElementValue) × AreStored updates elements
stored-exist updates = stored-behind [] [] updates none
