use Rattle.std.proofs.lemmas.Bool.{leb-true, le-leb}
use Rattle.json_text.proofs.CallerLemmas.{Value-deeper}
use Rattle.scene_json.proofs.nesting.nests_at_most.Goals as goal

pub returns-else-not-is_container : goal.returns-else-not-is_container
returns-else-not-is_container c = (
  λ shallow. Value-deeper (leb-true c.depth_of.result c.args.limit shallow) c.depth_of.ensures.holds,
  λ nests. le-leb c.depth_of.result c.args.limit (c.depth_of.ensures.least c.args.limit nests),
)
