use Rattle.std.proofs.Common.{drop, length-drop, arith}
use Rattle.json_text.proofs.CallerLemmas.{run-blank}
use Rattle.line_replica.proofs.talk.lone_value.Goals as goal

pub returns-clause-alone : goal.returns-clause-alone
returns-clause-alone c = record {
  rest = drop c.in_ok-value.after c.args.bytes.now;
  stands = c.in_ok-value.ensures.found;
  space = run-blank (drop c.in_ok-value.after c.args.bytes.now)
      (omega (
        arith,
        c.skip_space-at.ensures,
        c.if-at-bytes.false,
        c.in_ok-value.ensures.within.1,
        length-drop c.in_ok-value.after c.args.bytes.now,
      ));
}
