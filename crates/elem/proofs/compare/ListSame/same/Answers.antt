-- The lists are equal exactly where they are as long and equal item by item.
use Rattle.std.proofs.Common.{rules, ◌≡◌, ◌≢◌, IsTrue, ℕ, ◌<◌, length, Bool, true, false, MatchBool, List, [], ◌∷◌, get_or, refl, ap, arith}
use Rattle.std.specs.List.{AllWithin, HoldsAt, zip}
use Rattle.std.proofs.lemmas.Bool.{false≢true}
use Rattle.std.proofs.lemmas.Iterator.{cases_from_all, YieldsList-from_zip, YieldsList-from_slice}
use Rattle.std.proofs.lemmas.List.{same_lists}
use Rattle.std.proofs.lemmas.Slice.Zip.{get_or-zip, length-zip}
use Rattle.elem.proofs.compare.ListSame.same.Goals as goal

-- what `all` answered on the pairs of the two lists
abbrev AllSame : {T : Type 0} → Bool → List T → List T → Type 0
AllSame {T} r xs ys =
    MatchBool r (AllWithin (λ (p : T × T). p.0 ≡ p.1) (zip xs ys) 0 (length (zip xs ys)))
    ((k : ℕ) × (k < length (zip xs ys)) × HoldsAt (λ (p : T × T). p.0 ≢ p.1) (zip xs ys) k)

some_item : {T : Type 0} (xs : List T) (k : ℕ) → k < length xs → T
some_item [] k below = absurd (omega arith)
some_item (x ∷ xs) k below = x

same_from_cases : {T : Type 0} (xs ys : List T) (r : Bool) → length xs ≡ length ys → AllSame r xs ys
    → (IsTrue r → xs ≡ ys) × (xs ≡ ys → IsTrue r)
same_from_cases xs ys true long h = (
  λ _. same_lists xs ys long
      (λ k d below.
      let pair = get_or-zip xs ys k (d, d) below (omega arith) in
      let met = h k (d, d) (omega arith) (omega (arith, length-zip xs ys)) in
      rw pair at met),
  λ _. refl,
)
same_from_cases xs ys false long (k, below, differ) =
    let within : k < length xs = omega (arith, length-zip xs ys) in
    let d = some_item xs k within in
    let pair = get_or-zip xs ys k (d, d) within (omega arith) in
    let met = differ (d, d) in
    (λ e. absurd (false≢true e), λ e. absurd ((rw pair at met) (ap (λ zs. get_or zs k d) e)))

pub returns-then-items-others : goal.returns-then-items-others
returns-then-items-others g c =
    let xs = c.args.self.now in
    let ys = c.args.other.now in
    same_from_cases xs ys c.all.result (cc)
    (cases_from_all c.all.new.self _ _ (λ p. p.0 ≡ p.1) (λ p. p.0 ≢ p.1) c.all.ensures.ran
    (YieldsList-from_zip (YieldsList-from_slice xs (cc)) (YieldsList-from_slice ys (cc))) (λ x q k. search rules)
    (λ x q k. search rules))
