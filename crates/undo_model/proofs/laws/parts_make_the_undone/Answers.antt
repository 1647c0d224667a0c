use Rattle.undo_model.proofs.UndoneLaws.{inverse-makes, follows-undone}
use Rattle.undo_model.proofs.laws.parts_make_the_undone.Goals as goal

pub returns-clause-inverse : goal.returns-clause-inverse
returns-clause-inverse c = inverse-makes

pub returns-clause-part : goal.returns-clause-part
returns-clause-part c old new captured isold _ isnew _ kind iscaptured _ part result stands isresult applied =
    follows-undone old new captured result part isold isnew iscaptured isresult kind stands applied
