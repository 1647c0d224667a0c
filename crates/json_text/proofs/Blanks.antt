-- Whether all of a list passes, and white space alone: it is left exactly where its run goes to the end.
use Rattle.std.proofs.Common.{◌≡◌, ◌⊎◌, inl, inr, ℕ, ◌<◌, ◌≤◌, List, [], ◌∷◌, Bool, true, false, refl, length, arith}
use Rattle.std.specs.List.{list_all, prefix_len}
use Rattle.std.proofs.lemmas.Bool.{both_ways}
use Rattle.json_text.specs.Characters.{is_blank, is_space}

-- All elements pass, and the run that passes is the whole list; or neither is so.
abbrev pub Runs : (ℕ → Bool) → List ℕ → Type 0
Runs p xs =
    ((list_all p xs ≡ true) × (prefix_len p xs ≡ length xs)) ⊎ ((list_all p xs ≡ false) × (prefix_len p xs < length xs))

Runs-more : (p : ℕ → Bool) (x : ℕ) (xs : List ℕ) (b : Bool) → p x ≡ b → Runs p xs → Runs p (x ∷ xs)
Runs-more p x xs false fails rest = inr (rw fails refl, rw fails (omega arith))
Runs-more p x xs true passes (inl h) = inl (rw (passes, h.0) refl, rw (passes, h.1) (omega arith))
Runs-more p x xs true passes (inr h) = inr (rw (passes, h.0) refl, rw passes (omega (arith, h.1)))

pub Runs-either : (p : ℕ → Bool) (xs : List ℕ) → Runs p xs
Runs-either p [] = inl (refl, refl)
Runs-either p (x ∷ xs) = Runs-more p x xs (p x) refl (Runs-either p xs)

pub run-blank : (xs : List ℕ) → length xs ≤ prefix_len is_space xs → is_blank xs ≡ true
run-blank xs all = elim (Runs-either is_space xs) [ inl h ↦ h.0 | inr h ↦ absurd (omega (arith, h.1)) ]

pub run-more : (xs : List ℕ) → prefix_len is_space xs < length xs → is_blank xs ≡ false
run-more xs less = elim (Runs-either is_space xs) [ inl h ↦ absurd (omega (arith, h.1)) | inr h ↦ h.0 ]

pub blank-run : (xs : List ℕ) → is_blank xs ≡ true → prefix_len is_space xs < length xs → ⊥
blank-run xs blank less = both_ways (is_blank xs) (run-more xs less) blank
