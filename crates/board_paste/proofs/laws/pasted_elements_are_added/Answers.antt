use Rattle.board_paste.proofs.PastedLaws.{pasted-kept, pasted-added}
use Rattle.board_paste.proofs.laws.pasted_elements_are_added.Goals as goal

pub returns-clause-kept : goal.returns-clause-kept
returns-clause-kept c = λ updates stored elements news prefix before after distinct new. pasted-kept updates stored
    elements news prefix before after distinct new

pub returns-clause-added : goal.returns-clause-added
returns-clause-added c = λ updates stored elements news prefix before after distinct new. pasted-added updates stored
    elements news prefix before after distinct new
