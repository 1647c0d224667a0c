-- Stacks of which the last entries go to the other one, and steps that are planned for them.
use Rattle.std.proofs.Common.{◌≡◌, ◌↔◌, ℕ, zero, suc, ◌+◌, ◌-◌, ◌<◌, length, get_or, take, drop, append_assoc, map, reverse, Result, Ok, List, [], ◌∷◌, ◌++◌, Option, Some, None, IfSome, Contains, slice_get, refl, sym, ap, ◌∙◌, subst, subst₂, inl, inr, length-append, arith}
use Rattle.std.proofs.Math.Seq.{take-append_seam}
use Rattle.std.proofs.lemmas.List.{map-append}
use Rattle.std.proofs.lemmas.List.Elements.{Contains-append_right, Contains-push_cases}
use mathlib.Core.List.{reverse_aux-eq}
use Rattle.elem_store.proofs.CallerLemmas.{Contains-cases}
use Rattle.elem.specs.declared.stamp.Stamp.{Stamp}
use Rattle.elem.specs.ElementValue.{ElementValue}
use Rattle.delta.specs.Delta.{Delta}
use Rattle.delta.specs.Parts.{inverses}
use Rattle.history.specs.declared.planned.Direction.{Direction}
use Rattle.history.specs.declared.planned.Direction.TheVariants.{Undo, Redo}
use Rattle.history.specs.declared.planned.HistoryStep.{HistoryStep}
use Rattle.history.specs.declared.planned.Plan.{Plan}
use Rattle.history.specs.declared.step.Step.{Step}
use Rattle.history.specs.declared.step.Step.TheVariants as steps
use Rattle.history.specs.inner.Places.{IsSeenAt}
use Rattle.history.specs.Stacks.{Stacks, AreUnseen, IsTopmostSeen, HasStepped, HasTakenBack, StopsAt, FitsIn, noted, put_step, with_entry, redo_left, below_last, grown_by, side, stepped}
use Rattle.history.specs.inner.Stacks.{IsPlanned}
use Rattle.history.specs.Steps.{IsSeen, IsStep, IsLeastFull}

-- ---- lists
pub reverse-cons : {X : Type 0} (x : X) (xs : List X) → reverse (x ∷ xs) ≡ reverse xs ++ x ∷ []
reverse-cons x xs = reverse_aux-eq xs (x ∷ [])

at-place : {X : Type 0} (xs : List X) (k : ℕ) → k < length xs → (x : X) × (take (suc k) xs ≡ take k xs ++ x ∷ [])
    × (drop k xs ≡ x ∷ drop (suc k) xs)
at-place [] k l = absurd (omega arith)
at-place (x ∷ xs) zero l = (x, refl, refl)
at-place (y ∷ xs) (suc k) l = let r = at-place xs k (omega arith) in (r.0, ap (λ ys. y ∷ ys) r.1, r.2)

-- the last entry below so many last ones
pub split-last : {X : Type 0} (xs : List X) (i : ℕ) → i < length xs → (x : X)
    × (take (length xs - i) xs ≡ take (length xs - (i + 1)) xs ++ x ∷ [])
    × (drop (length xs - (i + 1)) xs ≡ x ∷ drop (length xs - i) xs)
split-last xs i l =
    let more : length xs - i ≡ suc (length xs - (i + 1)) = omega arith in
    let r = at-place xs (length xs - (i + 1)) (omega arith) in
    (r.0, ap (λ n. take n xs) more ∙ r.1, r.2 ∙ ap (λ n. r.0 ∷ drop n xs) (sym more))

pub moved-more : (top : List (List Delta)) (entry : List Delta)
    → map inverses (reverse (entry ∷ top)) ≡ map inverses (reverse top) ++ inverses entry ∷ []
moved-more top entry = ap (map inverses) (reverse-cons entry top) ∙ map-append inverses (reverse top) (entry ∷ [])

drop-behind : {X : Type 0} (below : List X) (x : X) (above : List X) → drop (suc (length below)) (below ++ x ∷ above)
    ≡ above
drop-behind [] x above = refl
drop-behind (y ∷ below) x above = drop-behind below x above

-- what is below and above an entry, by the number of those above
pub seam-below : {X : Type 0} (xs below : List X) (x : X) (above : List X) (n : ℕ) → xs ≡ below ++ x ∷ above
    → n ≡ length above → take (length xs - (n + 1)) xs ≡ below
seam-below xs below x above n e c =
    let long : length (below ++ x ∷ above) - (n + 1) ≡ length below = omega (arith, length-append below (x ∷ above)) in
    ap (λ ys. take (length ys - (n + 1)) ys) e ∙ ap (λ k. take k (below ++ x ∷ above)) long
    ∙ take-append_seam below (x ∷ above)

pub seam-above : {X : Type 0} (xs below : List X) (x : X) (above : List X) (n : ℕ) → xs ≡ below ++ x ∷ above
    → n ≡ length above → drop (length xs - n) xs ≡ above
seam-above xs below x above n e c =
    let long : length (below ++ x ∷ above) - n ≡ suc (length below) = omega (arith, length-append below (x ∷ above)) in
    ap (λ ys. drop (length ys - n) ys) e ∙ ap (λ k. drop k (below ++ x ∷ above)) long ∙ drop-behind below x above

drop-head : {X : Type 0} (xs : List X) (k : ℕ) (x : X) → k < length xs → x ≡ get_or xs k x
    → drop k xs ≡ x ∷ drop (suc k) xs
drop-head [] k x l here = absurd (omega arith)
drop-head (y ∷ ys) zero x l here = ap (λ z. z ∷ ys) (sym here)
drop-head (y ∷ ys) (suc k) x l here = drop-head ys k x (omega arith) here

-- one more entry that isn't seen, at the index below
pub unseen-below : (store : List ElementValue) (stack : List (List Delta)) (k count : ℕ) (entry : List Delta)
    → count ≡ suc k → k < length stack → entry ≡ get_or stack k entry → ¬ (IsSeen store entry)
    → AreUnseen store (drop count stack) → AreUnseen store (drop k stack)
unseen-below store stack k count entry more l here not unseen parts among =
    elim (Contains-cases entry (drop (suc k) stack) parts
    (subst (λ xs. Contains xs parts) (drop-head stack k entry l here) among)) [
      | inl same ↦ subst (λ e. ¬ (IsSeen store e)) same not
      | inr later ↦ unseen parts (subst (λ n. Contains (drop n stack) parts) (sym more) later)
    ]

pub ok-same : {X E : Type 0} (a b : X) → (let r : Result X E = Ok a in let s : Result X E = Ok b in r ≡ s) → a ≡ b
ok-same a b e = cc

-- ---- what is noted
pub with-none : (entry : List Delta) (stack : List (List Delta)) → entry ≡ [] → with_entry entry stack ≡ stack
with-none entry stack none = ap (λ e. with_entry e stack) none

pub with-more : (entry : List Delta) (stack : List (List Delta)) → (entry ≡ [] → ⊥)
    → with_entry entry stack ≡ stack ++ entry ∷ []
with-more [] stack some = absurd (some refl)
with-more (part ∷ parts) stack some = refl

pub left-none : (entry : List Delta) (stack : List (List Delta)) → entry ≡ [] → redo_left entry stack ≡ stack
left-none entry stack none = ap (λ e. redo_left e stack) none

pub left-more : (entry : List Delta) (stack : List (List Delta)) → (entry ≡ [] → ⊥) → redo_left entry stack ≡ []
left-more [] stack some = absurd (some refl)
left-more (part ∷ parts) stack some = refl

-- an empty entry changes nothing
pub noted-none : (entry : List Delta) (stacks : Stacks) → entry ≡ [] → noted entry stacks ≡ stacks
noted-none entry stacks none = ap (λ e. noted e stacks) none

-- ---- plans
module _ (store : List ElementValue) (stamp : Stamp) where
  -- a planned step is one, from the stacks as they are to those that put leaves
  stepped-from : (from to : List (List Delta)) (plan : Plan) → IsPlanned store stamp from plan
      → HasStepped store stamp.time stamp.nonce plan.given from to (below_last (plan.passed + 1) from)
      (grown_by plan.passed plan.made from to)
  stepped-from from to plan is = record {
    parts = is.parts;
    above = is.above;
    made = plan.made;
    topmost = record {
      split = is.topmost.split ∙ ap (λ xs. xs ++ is.parts ∷ is.above)
          (sym (seam-below from is.below is.parts is.above plan.passed is.topmost.split is.count));
      seen = is.topmost.seen;
      unseen = is.topmost.unseen;
    };
    pushed = ap (λ xs. to ++ (map inverses (reverse xs) ++ plan.made ∷ []))
        (seam-above from is.below is.parts is.above plan.passed is.topmost.split is.count);
    step = is.step;
  }

  taken-back : (direction : Direction) (stacks : Stacks) (plan : Plan)
      → IsPlanned store stamp (side direction stacks) plan
      → HasTakenBack direction store stamp plan.given stacks (stepped direction plan.passed (Some plan.made) stacks)
  taken-back Undo stacks plan is = stepped-from stacks.undo stacks.redo plan is
  taken-back Redo stacks plan is = stepped-from stacks.redo stacks.undo plan is

  within-planned : (stack : List (List Delta)) (plan : Plan) → IsPlanned store stamp stack plan
      → plan.passed < length stack
  within-planned stack plan is =
      let long = ap length is.topmost.split ∙ length-append is.below (is.parts ∷ is.above) in
      omega (arith, long, is.count)

  -- one more entry that isn't seen
  unseen-more : (entry : List Delta) (above : List (List Delta)) → ¬ (IsSeen store entry) → AreUnseen store above
      → AreUnseen store (above ++ entry ∷ [])
  unseen-more entry above not unseen parts among = elim (Contains-push_cases above entry parts among) [
    | inl earlier ↦ unseen parts earlier
    | inr same ↦ subst (λ e. ¬ (IsSeen store e)) same not
  ]

  pub unseen-over : (entry : List Delta) (stack : List (List Delta)) → ¬ (IsSeen store entry) → AreUnseen store stack
      → AreUnseen store (stack ++ entry ∷ [])
  unseen-over = unseen-more

  topmost-over : (entry : List Delta) (stack below : List (List Delta)) (parts : List Delta) (above : List (List Delta))
      → ¬ (IsSeen store entry) → IsTopmostSeen store stack below parts above
      → IsTopmostSeen store (stack ++ entry ∷ []) below parts (above ++ entry ∷ [])
  topmost-over entry stack below parts above not top = record {
    split = ap (λ xs. xs ++ entry ∷ []) top.split ∙ append_assoc below (parts ∷ above) (entry ∷ []);
    seen = top.seen;
    unseen = unseen-more entry above not top.unseen;
  }

  pub planned-over : (entry : List Delta) (stack : List (List Delta)) (plan : Plan) → ¬ (IsSeen store entry)
      → IsPlanned store stamp stack plan
      → IsPlanned store stamp (stack ++ entry ∷ []) (record plan { passed = plan.passed + 1 })
  planned-over entry stack plan not is = record {
    below = is.below;
    parts = is.parts;
    above = is.above ++ entry ∷ [];
    topmost = topmost-over entry stack is.below is.parts is.above not is.topmost;
    count = let long = length-append is.above (entry ∷ []) in omega (arith, long, is.count);
    step = is.step;
  }

  pub stops-over : (entry : List Delta) (stack : List (List Delta)) (id : List ℕ) → ¬ (IsSeen store entry)
      → StopsAt store stack id → StopsAt store (stack ++ entry ∷ []) id
  stops-over entry stack id not stops = record {
    below = stops.below;
    parts = stops.parts;
    above = stops.above ++ entry ∷ [];
    topmost = topmost-over entry stack stops.below stops.parts stops.above not stops.topmost;
    full = stops.full;
  }

  -- the topmost one stands at an index
  topmost-at : (stack : List (List Delta)) (i : ℕ) (is : IsSeenAt store stack i)
      → IsTopmostSeen store stack (take i stack) is.parts (drop (i + 1) stack)
  topmost-at stack i is = record {
    split = parted stack i is.parts is.at
        ∙ ap (λ n. take i stack ++ is.parts ∷ drop n stack) (one i);
    seen = is.seen;
    unseen = is.unseen;
  }
    where
      one : (i : ℕ) → suc i ≡ i + 1
      one i = omega arith

      parted : {X : Type 0} (xs : List X) (i : ℕ) (x : X) → slice_get xs i ≡ Some x
          → xs ≡ take i xs ++ x ∷ drop (suc i) xs
      parted [] i x at = absurd (none-some x at)
        where
          none-some : {X : Type 0} (x : X) → None ≡ Some x → ⊥
          none-some x e = cc
      parted (y ∷ ys) zero x at = ap (λ z. z ∷ ys) (some-same y x at)
        where
          some-same : {X : Type 0} (a b : X) → Some a ≡ Some b → a ≡ b
          some-same a b e = cc
      parted (y ∷ ys) (suc i) x at = ap (λ zs. y ∷ zs) (parted ys i x at)

  pub planned-at : (stack : List (List Delta)) (i : ℕ) (entry : List Delta) (plan : Plan)
      (is : IsSeenAt store stack i) → slice_get stack i ≡ Some entry → plan.passed ≡ length (drop (i + 1) stack)
      → IsStep entry store stamp.time stamp.nonce plan.given plan.made → IsPlanned store stamp stack plan
  planned-at stack i entry plan is at count step = record {
    below = take i stack;
    parts = is.parts;
    above = drop (i + 1) stack;
    topmost = topmost-at stack i is;
    count = count;
    step =
        subst (λ e. IsStep e store stamp.time stamp.nonce plan.given plan.made) (same entry is.parts (sym at ∙ is.at))
        step;
  }
    where
      same : {X : Type 0} (a b : X) → Some a ≡ Some b → a ≡ b
      same a b e = cc

  pub stops-at : (stack : List (List Delta)) (i : ℕ) (entry : List Delta) (id : List ℕ) (is : IsSeenAt store stack i)
      → slice_get stack i ≡ Some entry → IsLeastFull entry store id → StopsAt store stack id
  stops-at stack i entry id is at full = record {
    below = take i stack;
    parts = is.parts;
    above = drop (i + 1) stack;
    topmost = topmost-at stack i is;
    full = subst (λ e. IsLeastFull e store id) (same entry is.parts (sym at ∙ is.at)) full;
  }
    where
      same : {X : Type 0} (a b : X) → Some a ≡ Some b → a ≡ b
      same a b e = cc

  -- ---- what the plan of a step says
  nothing-done : (given : List ElementValue) → steps.Nothing ≡ steps.Done given → ⊥
  nothing-done given e = cc

  done-same : (a b : List ElementValue) → steps.Done a ≡ steps.Done b → a ≡ b
  done-same a b e = cc

  module _ (stacks : Stacks) (pending : List Delta) (direction : Direction) (plan : Option Plan) (r : HistoryStep
      × Step)
      (none : plan ≡ None → r ≡ (
        record { pending = pending; made = None; direction = direction; passed = 0 },
        steps.Nothing,
      ))
      (some : (p : Plan) → plan ≡ Some p → r
      ≡ (
        record { pending = pending; made = Some p.made; direction = direction; passed = p.passed },
        steps.Done p.given,
      ))
      (unseen : plan ≡ None → AreUnseen store (side direction (noted pending stacks)))
      (planned : IfSome plan (IsPlanned store stamp (side direction (noted pending stacks)))) where
    pub nothing-planned : (r.1 ≡ steps.Nothing) ↔ AreUnseen store (side direction (noted pending stacks))
    nothing-planned =
        elim plan as (λ o. plan ≡ o → (r.1 ≡ steps.Nothing) ↔ AreUnseen store (side direction (noted pending stacks))) [
          | None ↦ λ is. (λ e. unseen is, λ u. ap (λ (x : HistoryStep × Step). x.1) (none is))
          | Some p ↦ λ is.
              let it =
              subst (λ o. IfSome o (IsPlanned store stamp (side direction (noted pending stacks)))) is planned in (
                λ e. absurd (nothing-done p.given (sym e ∙ ap (λ (x : HistoryStep × Step). x.1) (some p is))),
                λ u. absurd (u it.parts (subst (λ stack. Contains stack it.parts) (sym it.topmost.split)
                    (Contains-append_right it.below (it.parts ∷ it.above) it.parts (0, omega arith, refl)))
                    it.topmost.seen),
              )
        ] refl

    pub fits-planned : FitsIn r.0 stacks
    fits-planned = elim plan as (λ o. plan ≡ o → FitsIn r.0 stacks) [
      | None ↦ λ is. subst (λ (x : HistoryStep × Step). FitsIn x.0 stacks) (sym (none is)) tt
      | Some p ↦ λ is.
          let it =
          subst (λ o. IfSome o (IsPlanned store stamp (side direction (noted pending stacks)))) is planned in
          subst (λ (x : HistoryStep × Step). FitsIn x.0 stacks) (sym (some p is))
          (within-planned (side direction (noted pending stacks)) p it)
    ] refl

    pub kept-planned : (step : HistoryStep) → r ≡ (step, steps.Nothing) → put_step step stacks ≡ noted pending stacks
    kept-planned step e = elim plan as (λ o. plan ≡ o → put_step step stacks ≡ noted pending stacks) [
      | None ↦ λ is. ap (λ (x : HistoryStep × Step). put_step x.0 stacks) (sym e ∙ none is)
      | Some p ↦ λ is. absurd (nothing-done p.given (ap (λ (x : HistoryStep × Step). x.1) (sym e ∙ some p is)))
    ] refl

    pub done-planned : (step : HistoryStep) (given : List ElementValue) → r ≡ (step, steps.Done given)
        → HasTakenBack direction store stamp given (noted pending stacks) (put_step step stacks)
    done-planned step given e = elim plan as (λ o. plan ≡ o
        → HasTakenBack direction store stamp given (noted pending stacks) (put_step step stacks)) [
          | None ↦ λ is. absurd (nothing-done given (ap (λ (x : HistoryStep × Step). x.1) (sym (none is) ∙ e)))
          | Some p ↦ λ is.
              subst₂ (λ (s : HistoryStep) g. HasTakenBack direction store stamp g (noted pending stacks)
              (put_step s stacks))
              (ap (λ (x : HistoryStep × Step). x.0) (sym (some p is) ∙ e))
              (done-same p.given given (ap (λ (x : HistoryStep × Step). x.1) (sym (some p is) ∙ e)))
              (taken-back direction (noted pending stacks) p
              (subst (λ o. IfSome o (IsPlanned store stamp (side direction (noted pending stacks)))) is planned))
        ] refl
