use Rattle.std.proofs.Common.{drop, length-drop, arith}
use Rattle.json_text.proofs.CallerLemmas.{run-blank}
use Rattle.room_msg.proofs.reading.lone_value.Goals as goal

pub returns-clause-alone : goal.returns-clause-alone
returns-clause-alone c = record {
  rest = drop c.in-Ok.found.1 c.args.bytes.now;
  stands = c.in-Ok.ensures.found;
  space = run-blank (drop c.in-Ok.found.1 c.args.bytes.now)
      (omega (
        arith,
        c.skip_space-at.ensures,
        c.if-at-bytes.false,
        c.in-Ok.ensures.within.1,
        length-drop c.in-Ok.found.1 c.args.bytes.now,
      ));
}
