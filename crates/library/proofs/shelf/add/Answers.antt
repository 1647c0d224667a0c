use Rattle.library.proofs.FiledLaws.{filed-after, filed-insert, filed-ordered}
use Rattle.library.proofs.shelf.add.Goals as goal

pub returns-in-Ok-insert-clause-filed : goal.returns-in-Ok-insert-clause-filed
returns-in-Ok-insert-clause-filed c =
    filed-ordered c.insert.new.self.entries
    (rw c.in-Ok-insert.ensures.entries (filed-insert c.args.items.now.entries c.in-Ok.id c.args.item c.in-Ok.ensures
    c.requires.filed.under))
    c.insert.ensures.ordered

pub returns-in-Ok-insert-clause-after : goal.returns-in-Ok-insert-clause-after
returns-in-Ok-insert-clause-after c = λ key.
    filed-after c.args.items.now.entries c.in-Ok.id key c.args.item _ c.in-Ok.ensures
    (c.in-Ok-insert.ensures.updates.0 key)
