use Rattle.shown_scenes.proofs.ShownWhole.{shown-whole}
use Rattle.shown_scenes.proofs.laws.shown_scenes_are_whole.Goals as goal

pub returns : goal.returns
returns c = shown-whole
