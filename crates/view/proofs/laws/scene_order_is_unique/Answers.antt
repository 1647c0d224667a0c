use Rattle.view.proofs.SceneOrder.{in_scene_order-is}
use Rattle.view.proofs.laws.scene_order_is_unique.Goals as goal

pub returns : goal.returns
returns c = in_scene_order-is
