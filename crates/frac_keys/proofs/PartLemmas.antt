-- What the code that cuts bytes reads.
use Rattle.std.proofs.Common.{◌≡◌, ℕ, suc, ◌-◌, ◌<◌, Bool, true, List, [], ◌∷◌, length, take, drop, get_or, eqb, Some, is_lt, nat_cmp, refl, sym, ap, ◌∙◌, take-append-drop, arith}
use Rattle.std.specs.List.{list_all}
use Rattle.std.proofs.lemmas.Bool.{and_parts}
use Rattle.std.proofs.lemmas.List.Folds.{list_all-append}
use Rattle.std.proofs.lemmas.Bool.Decides.{nat_tests}
use Rattle.std.proofs.lemmas.Cmp.{same_from_slice_cmp_tested}
use Rattle.std.specs.Cmp.Lexicographic.{slice_partial_cmp}
use Rattle.std.specs.Ordering.{is_some_and}
use Rattle.frac_keys.specs.Keys.{ends_in_zero, bytes_less}

pub ends_in_zero-last : (xs : List ℕ) → 0 < length xs → eqb (get_or xs (length xs - 1) 0) 48 ≡ ends_in_zero xs
ends_in_zero-last [] h = absurd (omega arith)
ends_in_zero-last (x ∷ []) h = refl
ends_in_zero-last (x ∷ y ∷ xs) h =
    let e : length (x ∷ y ∷ xs) - 1 ≡ suc (length (y ∷ xs) - 1) = omega arith in
    ap (λ n. eqb (get_or (x ∷ y ∷ xs) n 0) 48) e ∙ ends_in_zero-last (y ∷ xs) (omega arith)

pub bytes_less-lt : (xs ys : List ℕ) (r : Bool)
    → r ≡ is_some_and is_lt (slice_partial_cmp (λ x y. Some (nat_cmp x y)) xs ys) → r ≡ bytes_less xs ys
bytes_less-lt = same_from_slice_cmp_tested nat_cmp is_lt bytes_less refl (λ _ _. refl) (λ _ _. refl)
    (λ x y xs ys o h. grind (arith, nat_tests))

-- digits in parts
pub list_all-parts : (p : ℕ → Bool) (n : ℕ) (xs : List ℕ) → list_all p xs ≡ true → (list_all p (take n xs) ≡ true)
    × (list_all p (drop n xs) ≡ true)
list_all-parts p n xs h =
    and_parts (list_all p (take n xs)) (list_all p (drop n xs)) (sym (list_all-append p (take n xs) (drop n xs))
    ∙ (ap (list_all p) (take-append-drop n xs) ∙ h))
