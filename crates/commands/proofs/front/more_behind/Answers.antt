use Rattle.std.proofs.Common.{inl, inr, drop, length-drop, arith}
use Rattle.json_text.specs.Characters.{is_space}
use Rattle.json_text.proofs.CallerLemmas.{Runs-either}
use Rattle.commands.proofs.front.more_behind.Goals as goal

pub returns-else-at-bytes : goal.returns-else-at-bytes
returns-else-at-bytes c = elim (Runs-either is_space (drop c.args.after c.args.bytes.now)) [
  | inl all ↦ all.0
  | inr some ↦ absurd (omega (
    arith,
    some.1,
    c.requires,
    c.skip_space-at.ensures,
    c.if-at-bytes.false,
    length-drop c.args.after c.args.bytes.now,
  ))
]
