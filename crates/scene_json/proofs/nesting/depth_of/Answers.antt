use Rattle.std.proofs.Common.{arith}
use Rattle.scene_json.proofs.Depths.{depth-seen}
use Rattle.scene_json.proofs.nesting.depth_of.Goals as goal

pub returns-clause-least : goal.returns-clause-least
returns-clause-least c limit v =
    omega (
      arith,
      v.shallow,
      depth-seen _ c.loop-byte.deepest limit _ _ c.args.value.now c.in_default.ensures.cases
          c.loop-byte.invariant.same c.as_bytes-rest.ensures.value v,
    )
