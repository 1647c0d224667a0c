use Rattle.board_paste.proofs.StoredIds.{ids-new}
use Rattle.board_paste.proofs.laws.ids_of_copies_are_new.Goals as goal

pub returns : goal.returns
returns c = ids-new
