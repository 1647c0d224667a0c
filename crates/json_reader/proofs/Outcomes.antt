-- The machine over the bytes from an offset on: at each one a value stands or there is a first fault.
use Rattle.std.proofs.Common.{◌≡◌, ℕ, suc, ◌+◌, ◌-◌, ◌<◌, ◌≤◌, List, [], ◌∷◌, length, drop, ◌++◌, get_or, Some, true, refl, sym, ap, subst, ◌∙◌, arith, length-append, append_assoc, append-nil, drop-cons, ◌⊎◌, inl, inr, nat_lt, subst₂, length-drop}
use Rattle.std.specs.Prelude.{slice_get}
use Rattle.std.proofs.lemmas.List.{append_cancel_right, drop-drop, take-append-drop}
use Rattle.std.proofs.Math.Seq.{take-add, take-append_seam, drop-append_seam}
use Rattle.json_text.specs.Value.{Stands, IsFaulty}
use Rattle.json_reader.specs.inner.Runs.{is_over}
use Rattle.json_reader.specs.inner.Writing.{stretch, Ends, Breaks, IsBroken, IsRefusedIn, Came}
use Rattle.json_reader.specs.declared.reader.Taken.TheVariants as taken
use Rattle.json_reader.specs.Faults.{IsFirstFault}
use Rattle.json_reader.specs.inner.Machine.{Machine, Bracket, Mode, To, Outcome, state, ended, refused, top, moved, step, fault_of, JsonFault, Fresh, After, Move, Open, Close, End, Refuse, applied}
use Rattle.json_reader.proofs.Steps.{run, start, run-append}
use Rattle.json_reader.proofs.ValueRuns.{refused_faulty, undone_faulty, ended_stands, done_stands}
use Rattle.json_reader.proofs.FirstFaults.{told}
use Rattle.std.proofs.lemmas.Bool.{cond_both}

module _ (bytes : List ℕ) (at i : ℕ) (low : at ≤ i) where
  behind : drop (i - at) (drop at bytes) ≡ drop i bytes
  behind = let place : at + (i - at) ≡ i = omega arith in drop-drop (i - at) at bytes ∙ ap (λ k. drop k bytes) place

  -- the bytes before i and what follows them, the byte there, a stretch behind them, and a value that ends with them
  pub parted : drop at bytes ≡ stretch bytes at i ++ drop i bytes
  parted = sym (take-append-drop (i - at) (drop at bytes)) ∙ ap (λ xs. stretch bytes at i ++ xs) behind

  pub stretch_more : (j : ℕ) → i ≤ j → stretch bytes at j ≡ stretch bytes at i ++ stretch bytes i j
  stretch_more j up =
      let sum : (i - at) + (j - i) ≡ j - at = omega arith in
      rw (← sum, take-add, behind) refl

  pub one_more : i < length bytes → stretch bytes at (i + 1) ≡ stretch bytes at i ++ get_or bytes i 0 ∷ []
  one_more high =
      let one : i + 1 - i ≡ 1 = omega arith in
      rw (stretch_more (i + 1) (omega arith), one, drop-cons bytes i 0 high) refl

  pub whole_value : (text : List ℕ) (s : Stands (drop at bytes) text (drop i bytes))
      → stretch bytes at i ≡ s.blank ++ s.value
  whole_value text s = append_cancel_right (stretch bytes at i) (s.blank ++ s.value) (drop i bytes) (sym parted
      ∙ s.parts ∙ sym (append_assoc s.blank s.value (drop i bytes)))

  module _ (m : Mode) (st : List Bracket) (is : run 128 start (stretch bytes at i) ≡ state m st) where
    pub read_on : (o : Outcome) → i < length bytes → step 128 m st (get_or bytes i 0) ≡ o
        → run 128 start (stretch bytes at (i + 1)) ≡ o
    read_on o high e = rw (one_more high, run-append, is) e

    -- no value goes on with what is left
    pub broken_in : (left : List ℕ) → drop i bytes ≡ left → Breaks m st left → (place total : ℕ)
        → place + length left ≡ total
        → (fault : JsonFault) → fault ≡ fault_of m (top st) (slice_get left 0) place
        → IsBroken (drop at bytes) left total fault
    broken_in left there breaks place total counted fault told = record {
      mode = m;
      brackets = st;
      front = stretch bytes at i;
      place = place;
      parts = parted ∙ ap (λ xs. stretch bytes at i ++ xs) there;
      counted = counted;
      ran = is;
      breaks = breaks;
      told = told;
    }

-- ---- the machine stands so behind the bytes in front
slice_get-seam : (xs ys : List ℕ) → slice_get (xs ++ ys) (length xs) ≡ slice_get ys 0
slice_get-seam [] ys = refl
slice_get-seam (x ∷ xs) ys = slice_get-seam xs ys

-- nothing more is waited for
pub over_ends : (m : Mode) (st : List Bracket) → is_over m st ≡ true → (left : List ℕ) → Ends m st left
over_ends m st over left = grind arith

module _ (front : List ℕ) (m : Mode) (st : List Bracket) (is : run 128 start front ≡ state m st) where
  pub ends_stands : (left : List ℕ) → Ends m st left → (text : List ℕ) × Stands (front ++ left) text left
  ends_stands [] ends = let found = done_stands front m st is ends in (found.0, rw append-nil found.1)
  ends_stands (b ∷ left) ends = ended_stands front m st is b left ends

  broken_faulty : (left : List ℕ) → Breaks m st left → IsFaulty (front ++ left)
  broken_faulty [] undone = rw append-nil (undone_faulty front m st is undone)
  broken_faulty (b ∷ more) stuck = refused_faulty front m st is b more stuck

  pub first_fault : (bytes : List ℕ) (at : ℕ) (left : List ℕ) → drop at bytes ≡ front ++ left → Breaks m st left
      → IsFirstFault bytes at (fault_of m (top st) (slice_get left 0) (at + length front))
  first_fault bytes at left parts breaks =
      let next : slice_get (drop at bytes) (length front) ≡ slice_get left 0 =
      ap (λ xs. slice_get xs (length front)) parts ∙ slice_get-seam front left in
      record {
        faulty = subst IsFaulty (sym parts) (broken_faulty left breaks);
        first = told bytes at (length front) (omega (arith, ap length parts, length-append front left)) m st
            (rw (parts, take-append_seam) is)
            (λ b got. grind (arith, breaks, next, got)) (slice_get left 0) next;
      }

pub broken_first : (bytes : List ℕ) (at : ℕ) → at ≤ length bytes → (left : List ℕ) (fault : JsonFault)
    → IsBroken (drop at bytes) left (length bytes) fault → IsFirstFault bytes at fault
broken_first bytes at within left fault b =
    let place : at + length b.front ≡ b.place =
    omega (arith, ap length b.parts, length-append b.front left, length-drop at bytes, b.counted) in
    subst (IsFirstFault bytes at) (ap (fault_of b.mode (top b.brackets) (slice_get left 0)) place
    ∙ sym b.told) (first_fault b.front b.mode b.brackets b.ran bytes at left b.parts b.breaks)

pub refused_in : (bytes : List ℕ) (at : ℕ) (machine : Machine) (n : ℕ) → Came bytes at (taken.Refused machine n)
    → (place total : ℕ) → place + length bytes ≡ total + n
    → (fault : JsonFault) → fault ≡ fault_of machine.mode (top machine.brackets) (Some (get_or bytes n 0)) place
    → IsRefusedIn (drop at bytes) total fault
refused_in bytes at machine n came place total counted fault told =
    let left = drop (suc n) bytes in
    let there = drop-cons bytes n 0 came.1 in
    let size : place + length (get_or bytes n 0 ∷ left) ≡ total =
    omega (arith, came.1, counted, length-drop (suc n) bytes) in
    record {
      byte = get_or bytes n 0;
      more = left;
      broken =
          broken_in bytes at n came.0 machine.mode machine.brackets came.2 _ there came.3 place total size fault told;
    }

-- ---- the machine goes on, ends before the byte, or refuses it
abbrev Comes : ℕ → Outcome → Type 0
Comes b o = ((m : Mode) × (st : List Bracket) × (o ≡ state m st)) ⊎ ((o ≡ ended b) ⊎ (o ≡ refused))

comes : (limit : ℕ) (st : List Bracket) (b : ℕ) (move : Move) → Comes b (applied limit st b move)
comes limit st b (To m) = inl (m, st, refl)
comes limit st b (Open bracket) = cond_both (nat_lt (length st) limit) _ _ (Comes b)
    (λ room. inl (Fresh, bracket ∷ st, refl)) (λ full. inr (inr refl))
comes limit st b Close = inl (After, drop 1 st, refl)
comes limit st b End = inr (inl refl)
comes limit st b Refuse = inr (inr refl)

-- a value that ends within the bytes, or a first fault
abbrev IsDecided : List ℕ → ℕ → Type 0
IsDecided bytes at =
    ((text : List ℕ) × (end : ℕ) × (end ≤ length bytes) × Stands (drop at bytes) text (drop end bytes))
    ⊎ ((fault : JsonFault) × IsFirstFault bytes at fault)

module _ (bytes : List ℕ) (at : ℕ) (within : at ≤ length bytes) where
  ended_there : (front left : List ℕ) → drop at bytes ≡ front ++ left → (m : Mode) (st : List Bracket)
      → run 128 start front ≡ state m st → Ends m st left → IsDecided bytes at
  ended_there front left parts m st is ends =
      let found = ends_stands front m st is left ends in
      let rest : drop (at + length front) bytes ≡ left =
      sym (drop-drop (length front) at bytes) ∙ ap (drop (length front)) parts ∙ drop-append_seam front left in
      inl (
        found.0,
        at + length front,
        omega (arith, ap length parts, length-append front left, length-drop at bytes),
        subst₂ (λ xs ys. Stands xs found.0 ys) (sym parts) (sym rest) found.1,
      )

  walk : (front left : List ℕ) → drop at bytes ≡ front ++ left → (m : Mode) (st : List Bracket)
      → run 128 start front ≡ state m st → IsDecided bytes at
  walk front [] parts m st is = elim (comes 128 st 32 (moved m (top st) 32)) [
    | inl on ↦ inr (_, first_fault front m st is bytes at [] parts (λ e. let no = sym on.2 ∙ e in cc))
    | inr (inl done) ↦ ended_there front [] parts m st is done
    | inr (inr stuck) ↦ inr (_, first_fault front m st is bytes at [] parts (λ e. let no = sym stuck ∙ e in cc))
  ]
  walk front (b ∷ left) parts m st is = elim (comes 128 st b (moved m (top st) b)) [
    | inl on ↦ walk (front ++ b ∷ []) left (parts ∙ sym (append_assoc front (b ∷ []) left)) on.0 on.1
        (rw (run-append, is) on.2)
    | inr (inl done) ↦ ended_there front (b ∷ left) parts m st is done
    | inr (inr stuck) ↦ inr (_, first_fault front m st is bytes at (b ∷ left) parts stuck)
  ]

pub value-or-fault : (bytes : List ℕ) (at : ℕ) → at ≤ length bytes → IsDecided bytes at
value-or-fault bytes at within = walk bytes at within [] (drop at bytes) refl Mode.Value [] refl
