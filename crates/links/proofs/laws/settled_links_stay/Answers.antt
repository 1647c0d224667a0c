-- Settling arrows changes no text's container, and what is settled by a list is settled by the settled list alike.
use Rattle.links.specs.Texts.{settled_texts}
use Rattle.links.proofs.ArrowLaws.{settled_arrows-again}
use Rattle.links.proofs.SettledLaws.{texts-of_links, links-again}
use Rattle.links.proofs.laws.settled_links_stay.Goals as goal

pub returns-clause-texts : goal.returns-clause-texts
returns-clause-texts c = texts-of_links

pub returns-clause-arrows : goal.returns-clause-arrows
returns-clause-arrows c = λ list. settled_arrows-again (settled_texts list)

pub returns-clause-both : goal.returns-clause-both
returns-clause-both c = links-again
