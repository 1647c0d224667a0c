-- Bytes whose fronts differ compare as these do.
use Rattle.std.proofs.Common.{◌≡◌, ◌≢◌, ℕ, zero, suc, List, [], ◌∷◌, Ordering, Less, Equal, Greater, nat_cmp, arith}
use Rattle.std.specs.Cmp.Lexicographic.{slice_cmp}
use Rattle.std.specs.Cmp.{nat_cmp_is}
use Rattle.std.specs.Ordering.{ordering_then}
use Rattle.board_base.specs.Fronts.{front}

module _ (c : Ordering) (apart : Equal ≢ c) where
  then_same : (o p q : Ordering) → (p ≡ c → q ≡ c) → ordering_then o p ≡ c → ordering_then o q ≡ c
  then_same Less p q same h = h
  then_same Equal p q same h = same h
  then_same Greater p q same h = h

  shorter : (b : List ℕ) → slice_cmp nat_cmp [] b ≡ c → Less ≡ c
  shorter [] h = absurd (apart h)
  shorter (y ∷ b) h = h

  longer : (a : List ℕ) → slice_cmp nat_cmp a [] ≡ c → Greater ≡ c
  longer [] h = absurd (apart h)
  longer (x ∷ a) h = h

  pub fronts-decide : (n : ℕ) (a b : List ℕ) → slice_cmp nat_cmp (front n a) (front n b) ≡ c → slice_cmp nat_cmp a b ≡ c
  fronts-decide zero a b h = absurd (apart h)
  fronts-decide (suc n) [] [] h = fronts-decide n [] [] h
  fronts-decide (suc n) [] (zero ∷ b) h = shorter b (fronts-decide n [] b h)
  fronts-decide (suc n) [] (suc y ∷ b) h = rw (← nat_cmp_is 0 (suc y) Less (omega arith)) at h
  fronts-decide (suc n) (zero ∷ a) [] h = longer a (fronts-decide n a [] h)
  fronts-decide (suc n) (suc x ∷ a) [] h = rw (← nat_cmp_is (suc x) 0 Greater (omega arith)) at h
  fronts-decide (suc n) (x ∷ a) (y ∷ b) h = then_same (nat_cmp x y) _ _ (fronts-decide n a b) h

pub not_less : Equal ≢ Less
not_less e = cc

pub not_greater : Equal ≢ Greater
not_greater e = cc
