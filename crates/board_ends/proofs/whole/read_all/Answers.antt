use Rattle.std.proofs.Common.{ℕ, arith, rules}
use Rattle.std.proofs.lemmas.List.{length-take}
use Rattle.std.proofs.lemmas.Result.{err_from_is_err_and}
use Rattle.board_ends.proofs.Moved.{Gave-part}
use Rattle.board_ends.proofs.whole.read_all.Goals as goal

pub returns-in_err-append_next-clause-ends : goal.returns-in_err-append_next-clause-ends
returns-in_err-append_next-clause-ends g c =
    let some = Gave-part _ _ _ _ _ _ c.loop-all.invariant.given c.in_err-append_next.ensures.stopped in
    let p =
    err_from_is_err_and c.from_residual-in_err-append_next.result c.from_residual-in_err-append_next.ensures.1 in
    record {
      end = search rules;
      failed = search rules;
      failed_within = search rules;
      too_long = search rules;
      stopped = rw p.1 (
        some.0,
        omega (arith, some.1, length-take {A = ℕ}, c.min-wanted.ensures, c.loop-all.all.ok.0),
        some.2,
      );
      counted = omega (arith, c.in_err-append_next.ensures.counted, c.loop-all.invariant.counted);
    }
