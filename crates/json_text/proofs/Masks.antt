-- A stretch of bytes of one class, seen 16 bytes at a time through the mask of those that are not of it.
use Rattle.std.proofs.Common.{◌≡◌, ℕ, ◌+◌, ◌%◌, ◌^◌, ◌≤◌, eqb, cond, Bool, true, not, List, [], ◌∷◌, ◌++◌, map, replicate, bit_or, length, drop, refl, ap, ap₂, ◌∙◌, arith, Fits, w8}
use Rattle.std.proofs.lemmas.Bool.{agree_below, agree_below_at}
use Rattle.std.proofs.lemmas.Bool.Decides.{nat_tests}
use Rattle.std.proofs.lemmas.List.{length-map}
use Rattle.std.proofs.lemmas.Simd.{chunk-drop, length-chunk, mask_l-mod, first_set_mask_l, zip2_splat, zip2_of_maps}
use Rattle.std.specs.List.{prefix_len}
use Rattle.json_text.proofs.Contents.{passed_within}
use lib.Count.{count_trailing_zeros}
use lib.Lanes.{chunk, zip2, mask_l, top, Each1}

-- what comparing two bytes gives
abbrev pub compared : (ℕ → ℕ → Bool) → ℕ → ℕ → ℕ
compared test a b = cond (test a b) 255 0

-- the lanes that are marked, or are this byte
pub marked : (f : ℕ → ℕ) (byte : ℕ) (v : List ℕ) {a : List ℕ} → length v ≡ 16 → a ≡ map f v
    → zip2 bit_or a (zip2 (compared eqb) v (replicate 16 byte)) ≡ map (λ x. bit_or (f x) (compared eqb x byte)) v
marked f byte v long is = zip2_of_maps bit_or f _ v is (zip2_splat (compared eqb) v 16 byte long)

-- a mask whose lanes are computed byte by byte is held to a test at each of the 256 bytes
pub masked : (f : ℕ → ℕ) (p : ℕ → Bool) (v z : List ℕ) → (length v ≡ 16) × Each1 (Fits w8) v → z ≡ map f v
    → agree_below (λ x. top 7 (f x)) p 256 ≡ true
    → mask_l (map (top 7) z) % 2 ^ 64 ≡ mask_l (map p v)
masked f p v z fits e agree =
    ap (λ l. mask_l l % 2 ^ 64) (ap (map (top 7)) e ∙ each v fits.1)
    ∙ mask_l-mod (map p v) 64 (omega (arith, fits.0, length-map v p))
  where
    each : (xs : List ℕ) → Each1 (Fits w8) xs → map (top 7) (map f xs) ≡ map p xs
    each [] fits = refl
    each (x ∷ xs) fits =
        ap₂ (λ a b. a ∷ b) (agree_below_at (λ y. top 7 (f y)) p 256 x agree fits.0.fits) (each xs fits.1)

module _ (q : ℕ → Bool) where
  -- the bytes that fail
  abbrev mask : List ℕ → ℕ
  mask xs = mask_l (map (λ x. not (q x)) xs)

  -- where a vector has none that fails, the stretch goes on behind it
  joined : (xs ys : List ℕ) → prefix_len q (xs ++ ys) ≡ cond (eqb (mask xs) 0) (length xs + prefix_len q ys)
      (prefix_len (λ x. not (not (q x))) xs)
  joined [] ys = omega arith
  joined (x ∷ xs) ys = grind (arith, nat_tests, joined xs ys)

  pub run_in : (d : List ℕ) (i : ℕ) → i + 16 ≤ length d
      → prefix_len q (drop i d) ≡ cond (eqb (mask (chunk i 16 d)) 0) (16 + prefix_len q (drop (i + 16) d))
      (count_trailing_zeros 64 (mask (chunk i 16 d)))
  run_in d i room =
      let bytes = chunk i 16 d in
      let long = length-chunk i 16 d room in
      grind (
        arith,
        nat_tests,
        chunk-drop i 16 d,
        long,
        joined bytes (drop (i + 16) d),
        first_set_mask_l (λ x. not (q x)) bytes 16 long (omega arith),
      )

pub ruleset run_steps = (run_in, passed_within, nat_tests)
