use Rattle.std.proofs.Common.{inl, inr, drop, length-drop, arith}
use Rattle.std.proofs.lemmas.Bool.Decides.{nat_tests}
use Rattle.json_text.specs.Characters.{is_space}
use Rattle.json_text.proofs.CallerLemmas.{Runs-either}
use Rattle.checks.proofs.reading.has_more.Goals as goal

pub returns : goal.returns
returns c = elim (Runs-either is_space (drop c.args.at c.args.bytes.now)) [
  | inl all ↦ rw all.0 (grind (arith, nat_tests, all.1, c.skip_space.ensures, length-drop c.args.at c.args.bytes.now))
  | inr some ↦ rw some.0 (grind (arith, nat_tests, some.1, c.skip_space.ensures, length-drop c.args.at c.args.bytes.now))
]
