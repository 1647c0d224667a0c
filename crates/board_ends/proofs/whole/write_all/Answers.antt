use Rattle.std.proofs.Common.{◌≤◌, ◌-◌, length, arith}
use Rattle.std.proofs.lemmas.Grind.{common_steps}
use Rattle.board_ends.proofs.Moved.{Took-next, Took-none}
use Rattle.board_ends.proofs.Safe.{KeepsSafe-more, KeepsSafe-same}
use Rattle.board_ends.proofs.whole.write_all.Goals as goal

pub loop-out-preserved : goal.loop-out-preserved
loop-out-preserved g c =
    let within : c.in_ok-out.field-0 ≤ length c.args.bytes.now - c.loop-out.out =
    grind (arith, common_steps, c.in_ok-out.ensures) in
    record {
      within = omega arith;
      taken = Took-next _ _ _ c.args.bytes.now c.loop-out.out c.in_ok-out.field-0 within c.loop-out.invariant.taken
          c.in_ok-out.ensures.taken;
      safe = KeepsSafe-more _ _ _ c.loop-out.invariant.safe c.in_ok-out.ensures.safe;
      safe_held = λ before. c.in_ok-out.ensures.safe_held;
      counted = omega arith;
    }

pub returns-in_err-out-clause-safe : goal.returns-in_err-out-clause-safe
returns-in_err-out-clause-safe g c = KeepsSafe-more _ _ _ c.loop-out.invariant.safe c.in_err-out.ensures.safe

pub loop-out-init : goal.loop-out-init
loop-out-init g c = record {
  within = omega arith;
  taken = Took-none _;
  safe = KeepsSafe-same _;
  safe_held = λ before. before;
  counted = omega arith;
}
