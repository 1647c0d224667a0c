use Rattle.std.proofs.Common.{◌+◌, take_all, length-drop, ◌∙◌, arith}
use Rattle.scene_json.proofs.Behind.{string_closed, string_escaped}
use Rattle.scene_json.proofs.nesting.after_string.Goals as goal

pub returns-then-bytes-end-eq34 : goal.returns-then-bytes-end-eq34
returns-then-bytes-end-eq34 c =
    take_all _ _ (omega (arith, length-drop (c.run_end-end.result + 1) c.args.bytes.now))
    ∙ string_closed c.args.bytes.now c.loop-at.at c.run_end-end.result c.run_end-end.ensures.value
    c.loop-at.invariant.same (omega (arith, c.run_end-end.ensures.within)) c.if-bytes-end-eq34.true

pub loop-at-preserved : goal.loop-at-preserved
loop-at-preserved c = record {
  within = omega arith;
  same = string_escaped c.args.bytes.now c.loop-at.at c.run_end-end.result c.run_end-end.ensures.value
      c.loop-at.invariant.same c.min-at.result (omega (arith, c.run_end-end.ensures.within)) c.loop-at.invariant.within
      c.if-bytes-end-eq34.false c.min-at.ensures;
}
