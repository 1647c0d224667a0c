-- The texts of the list whose arrows are settled are settled before.
use Rattle.links.specs.Texts.{settled_texts}
use Rattle.links.proofs.ArrowLaws.{ArrowsAgree-settled, TextsAgree-settled, HaveOneText-settled, NameTargets-settled}
use Rattle.links.proofs.SettledLaws.{distinct-texts}
use Rattle.links.proofs.TextLaws.{settled_texts-again}
use Rattle.links.proofs.laws.settled_links_agree.Goals as goal

pub returns-clause-arrows : goal.returns-clause-arrows
returns-clause-arrows c = λ list distinct. ArrowsAgree-settled (settled_texts list) (distinct-texts list distinct)

pub returns-clause-texts : goal.returns-clause-texts
returns-clause-texts c = λ list distinct. TextsAgree-settled (settled_texts list) (distinct-texts list distinct)
    (settled_texts-again list distinct)

pub returns-clause-one_text : goal.returns-clause-one_text
returns-clause-one_text c = λ list. HaveOneText-settled (settled_texts list)

pub returns-clause-targets : goal.returns-clause-targets
returns-clause-targets c = λ list. NameTargets-settled (settled_texts list)
