use Rattle.std.proofs.lemmas.List.Elements.{recursion_from_All}
use Rattle.scene_file.proofs.CallerLemmas.{HasText}
use Rattle.shown_scenes.proofs.ShownTexts.{shown-compact}
use Rattle.shown_scenes.proofs.laws.shown_scene_is_written.Goals as goal

pub returns : goal.returns
returns c scenes head stored read joined are =
    shown-compact scenes head stored (recursion_from_All HasText scenes read) joined are
