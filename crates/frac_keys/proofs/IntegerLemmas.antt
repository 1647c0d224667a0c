-- The next integer part as the code makes it, from the last digit that isn't full.
use Rattle.std.proofs.Common.{◌≡◌, ◌≢◌, ℕ, zero, suc, ◌+◌, ◌-◌, ◌<◌, true, List, [], ◌∷◌, ◌++◌, length, take, drop, replicate, get_or, Option, Some, None, option_map, eqb, refl, add-one, arith}
use Rattle.std.specs.List.{list_all}
use Rattle.std.proofs.lemmas.Bool.{and_parts, cond-true, cond-false, ne_eqb}
use Rattle.frac_keys.specs.Keys.{digit_count, is_integer}
use Rattle.frac_keys.specs.Between.{carried, stepped}

pub is_integer-some : (i : List ℕ) → is_integer i ≡ true → 0 < length i
is_integer-some [] h = cc
is_integer-some (head ∷ digits) h = omega arith

module _ (full reset : ℕ) (next : ℕ → ℕ) where
  carried_full : (ds : List ℕ) → list_all (λ d. eqb d full) ds ≡ true → carried full reset next ds ≡ None
  unfolding carried
  carried_full [] h = refl
  carried_full (d ∷ ds) h =
      let p = and_parts (eqb d full) (list_all (λ d. eqb d full) ds) h in
      rw (carried_full ds p.1) (cond-true (eqb d full) None (Some (next d ∷ replicate (length ds) reset)) p.0)

  carried_at : (ds : List ℕ) (m : ℕ) → m < length ds → get_or ds m 0 ≢ full
      → list_all (λ d. eqb d full) (drop (suc m) ds) ≡ true
      → carried full reset next ds ≡ Some (take m ds ++ next (get_or ds m 0) ∷ replicate (length ds - m - 1) reset)
  unfolding carried
  carried_at [] m h ne f = absurd (omega arith)
  carried_at (d ∷ ds) zero h ne f =
      let long : suc (length ds) - 0 - 1 ≡ length ds = omega arith in
      rw (carried_full ds f, long) (cond-false (eqb d full) None (Some (next d ∷ replicate (length ds) reset))
      (ne_eqb d full ne))
  carried_at (d ∷ ds) (suc m) h ne f =
      let long : suc (length ds) - suc m - 1 ≡ length ds - m - 1 = omega arith in
      rw (carried_at ds m (omega arith) ne f, long) refl

  module _ (next_head : ℕ → Option ℕ) where
    pub stepped_at : (i : List ℕ) (m : ℕ) → 0 < m → m < length i → get_or i m 0 ≢ full
        → list_all (λ d. eqb d full) (drop (m + 1) i) ≡ true
        → stepped full reset next next_head i
        ≡ Some (take m i ++ next (get_or i m 0) ∷ replicate (length i - m - 1) reset)
    unfolding stepped
    stepped_at [] m z h ne f = absurd (omega arith)
    stepped_at (d ∷ ds) zero z h ne f = absurd (omega arith)
    stepped_at (d ∷ ds) (suc m) z h ne f =
        let long : suc (length ds) - suc m - 1 ≡ length ds - m - 1 = omega arith in
        rw (carried_at ds m (omega arith) ne (rw add-one at f), long) refl

    pub stepped_head : (i : List ℕ) → 0 < length i → list_all (λ d. eqb d full) (drop 1 i) ≡ true
        → stepped full reset next next_head i ≡ option_map (λ new. new ∷ replicate (digit_count new) reset)
        (next_head (get_or i 0 0))
    unfolding stepped
    stepped_head [] h f = absurd (omega arith)
    stepped_head (d ∷ ds) h f = rw (carried_full ds f) refl
