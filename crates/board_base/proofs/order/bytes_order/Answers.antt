use Rattle.std.proofs.Common.{◌≡◌, ◌∙◌, ℕ, zero, suc, List, [], ◌∷◌, length, drop, refl, arith}
use Rattle.std.proofs.lemmas.Bool.Decides.{nat_tests}
use Rattle.std.specs.Prelude.{min}
use Rattle.std.specs.Ordering.{nat_cmp}
use Rattle.std.specs.Cmp.Lexicographic.{slice_cmp}
use Rattle.board_base.proofs.order.bytes_order.Goals as goal

-- behind the shorter one's bytes the lengths decide
past-shorter : (i : ℕ) (a b : List ℕ) → i ≡ min (length a) (length b)
    → nat_cmp (length a) (length b) ≡ slice_cmp nat_cmp (drop i a) (drop i b)
past-shorter zero [] [] e = refl
past-shorter zero [] (y ∷ b) e = grind (arith, nat_tests)
past-shorter zero (x ∷ a) [] e = grind (arith, nat_tests)
past-shorter zero (x ∷ a) (y ∷ b) e = absurd (omega arith)
past-shorter (suc i) [] b e = absurd (omega arith)
past-shorter (suc i) (x ∷ a) [] e = absurd (omega arith)
past-shorter (suc i) (x ∷ a) (y ∷ b) e = grind (arith, nat_tests, past-shorter i a b)

pub returns : goal.returns
returns c =
    let ended : c.loop-i.i ≡ min (length c.args.a.now) (length c.args.b.now) = omega arith in
    c.cmp-2.ensures ∙ past-shorter _ _ _ ended ∙ c.loop-i.invariant.rest
