use Rattle.view.proofs.ContentLaws.{stamps-play_no_part}
use Rattle.view.proofs.laws.stamps_play_no_part.Goals as goal

pub returns : goal.returns
returns c = stamps-play_no_part
