use Rattle.library.proofs.ItemClips.{item-clip}
use Rattle.library.proofs.laws.item_is_a_clip.Goals as goal

pub returns : goal.returns
returns c = item-clip
