use Rattle.std.proofs.Common.{◌≡◌, ◌==◌, true, length, ap, sym, ◌∙◌, arith}
use Rattle.std.proofs.lemmas.Bool.Decides.{nat_tests}
use Rattle.board_base.specs.declared.stop.Stop.TheVariants as stop
use Rattle.checks.proofs.Told.{none-read}
use Rattle.checks.proofs.checking.checked.Goals as goal

pub returns-then-is_empty-clause-none : goal.returns-then-is_empty-clause-none
returns-then-is_empty-clause-none c = λ fault e.
    let same : c.missing.result ≡ stop.Fault fault = cc in
    let test : (length c.in_ok-texts.texts == 0) ≡ true =
    sym (c.is_empty.ensures ∙ ap (λ xs. length xs == 0) c.as_slice.ensures) ∙ c.if-is_empty.true in
    let none : length c.in_ok-texts.texts ≡ 0 = grind (arith, nat_tests, test) in
    record {
      blank = none-read c.args.bytes.now c.in_ok-texts.texts c.in_ok-texts.ensures none;
      faulty = c.missing.ensures fault same;
    }
