use Rattle.scene_file.specs.Scenes.{scene_text}
use Rattle.scene_file.proofs.Fitting.{written-exists}
use Rattle.scene_file.proofs.laws.compact_scene_is_written.Goals as goal

pub returns : goal.returns
returns c layout head elements is = written-exists layout (scene_text head elements) is
