use Rattle.std.proofs.Common.{◌≡◌, ap, ◌∙◌}
use Rattle.links.specs.Texts.{settled_texts}
use Rattle.links.proofs.SettledLaws.{unlinked-texts, distinct-texts}
use Rattle.links.proofs.TextLaws.{settled_texts-again}
use Rattle.links.proofs.settle.settle_texts.Goals as goal

exact : (c : goal.After-from_vec) → c.from_vec.result ≡ settled_texts c.args.list
exact c = c.from_vec.ensures ∙ (c.in_ok-settle_containers.ensures ∙ ap settled_texts c.into_vec-list.ensures)

pub returns-clause-exact : goal.returns-clause-exact
returns-clause-exact c = exact c

pub returns-clause-again : goal.returns-clause-again
returns-clause-again c = rw (exact c) (settled_texts-again c.args.list c.requires)

pub returns-clause-others : goal.returns-clause-others
returns-clause-others c = rw (exact c) (unlinked-texts c.args.list)

pub returns-clause-distinct : goal.returns-clause-distinct
returns-clause-distinct c = rw (exact c) (distinct-texts c.args.list c.requires)
