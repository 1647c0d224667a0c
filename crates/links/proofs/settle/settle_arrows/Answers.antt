use Rattle.std.proofs.Common.{◌≡◌, ap, ◌∙◌}
use Rattle.links.specs.Arrows.{settled_arrows}
use Rattle.links.proofs.ArrowLaws.{ArrowsAgree-settled, TextsAgree-settled, HaveOneText-settled, NameTargets-settled, settled_arrows-again, settled_texts-linked}
use Rattle.links.proofs.SettledLaws.{unlinked-arrows, distinct-arrows}
use Rattle.links.proofs.settle.settle_arrows.Goals as goal

exact : (c : goal.After-from_vec) → c.from_vec.result ≡ settled_arrows c.args.list
exact c = c.from_vec.ensures ∙ (c.in_ok-settle_links.ensures ∙ ap settled_arrows c.into_vec-list.ensures)

pub returns-clause-exact : goal.returns-clause-exact
returns-clause-exact c = exact c

pub returns-clause-arrows : goal.returns-clause-arrows
returns-clause-arrows c = rw (exact c) (ArrowsAgree-settled c.args.list c.requires.distinct)

pub returns-clause-texts : goal.returns-clause-texts
returns-clause-texts c = rw (exact c) (TextsAgree-settled c.args.list c.requires.distinct c.requires.texts)

pub returns-clause-one_text : goal.returns-clause-one_text
returns-clause-one_text c = rw (exact c) (HaveOneText-settled c.args.list)

pub returns-clause-targets : goal.returns-clause-targets
returns-clause-targets c = rw (exact c) (NameTargets-settled c.args.list)

pub returns-clause-again : goal.returns-clause-again
returns-clause-again c = rw (exact c) (settled_arrows-again c.args.list)

pub returns-clause-texts_again : goal.returns-clause-texts_again
returns-clause-texts_again c = rw (exact c) (settled_texts-linked c.args.list c.requires.texts)

pub returns-clause-others : goal.returns-clause-others
returns-clause-others c = rw (exact c) (unlinked-arrows c.args.list)

pub returns-clause-distinct : goal.returns-clause-distinct
returns-clause-distinct c = rw (exact c) (distinct-arrows c.args.list c.requires.distinct)
