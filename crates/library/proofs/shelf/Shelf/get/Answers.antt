use Rattle.std.proofs.Common.{sym, ◌∙◌}
use Rattle.library.proofs.FiledLaws.{filed-is}
use Rattle.library.proofs.shelf.Shelf.get.Goals as goal

pub returns-clause-ordered : goal.returns-clause-ordered
returns-clause-ordered c = rw (← c.self.view_is) c.self.invariant.rise

pub returns-clause-item : goal.returns-clause-item
returns-clause-item c = rw (← c.self.view_is) (c.filed_under.ensures
    ∙ sym (filed-is c.self.inside.items.entries c.args.id.now c.self.invariant.under))
