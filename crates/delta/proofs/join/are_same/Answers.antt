-- Lists that are as long are the same where all their items are.
use Rattle.std.proofs.Common.{rules, ◌≡◌, ◌==◌, ℕ, length, true, ◌&&◌, sym, ap, ◌∙◌, arith}
use Rattle.std.specs.List.{zip, list_all}
use Rattle.std.proofs.lemmas.Bool.Decides.{nat_tests}
use Rattle.std.proofs.lemmas.Iterator.{YieldsList-from_zip, YieldsList-from_slice}
use Rattle.std.proofs.lemmas.Iterator.Search.{all_from_yields_List}
use Rattle.delta.proofs.join.are_same.Goals as goal

long : (n m : ℕ) → n ≡ m → (n == m) ≡ true
long n m e = grind (arith, nat_tests)

pub returns-then-items-others : goal.returns-then-items-others
returns-then-items-others g c =
    let xs = c.args.items.now in
    let ys = c.args.others.now in
    let all = list_all (λ p. g.T.Item.same p.0 p.1) (zip xs ys) in
    all_from_yields_List (λ p. g.T.Item.same p.0 p.1) c.all.new.self _ c.all.result c.all.ensures.ran
    (YieldsList-from_zip (YieldsList-from_slice xs (cc)) (YieldsList-from_slice ys (cc))) (λ x b q k. search rules)
    ∙ ap (λ b. b && all) (sym (long (length xs) (length ys) (cc)))
