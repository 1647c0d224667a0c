use Rattle.std.proofs.Common.{◌≡◌, true, ◌&&◌, Some, None, nat_le, if◌then◌else◌, refl, sym, ◌∙◌, arith}
use Rattle.std.proofs.lemmas.Bool.Decides.{nat_tests}
use Rattle.commands.proofs.Numbers.{number-found}
use Rattle.commands.proofs.words.number_within.Goals as goal

pub returns-in-Some-clause-number : goal.returns-in-Some-clause-number
returns-in-Some-clause-number c =
    let found = c.in-Some.ensures.found in
    let low : nat_le c.args.least c.in-Some.number ≡ true = grind (arith, nat_tests) in
    let high : nat_le c.in-Some.number c.args.most ≡ true = grind (arith, nat_tests) in
    let bounds : (if nat_le c.args.least c.in-Some.number
    && nat_le c.in-Some.number c.args.most then Some c.in-Some.number else None) ≡ Some c.in-Some.number =
    rw (low, high) refl in
    sym (number-found c.args.least c.args.most c.args.word.now c.in-Some.number found.0 (sym c.as_slice.ensures
    ∙ found.1) ∙ bounds)
