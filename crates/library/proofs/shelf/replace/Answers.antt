use Rattle.std.proofs.Common.{refl}
use Rattle.library.proofs.FiledLaws.{filed-after, filed-ordered, filed-set}
use Rattle.library.proofs.shelf.replace.Goals as goal

pub returns-clause-filed : goal.returns-clause-filed
returns-clause-filed c =
    let written = c.get_mut.follows.holds c.args.item in
    filed-ordered (c.get_mut.follows.lender c.args.item).entries
    (rw written.0 (filed-set c.args.items.now.entries c.args.item c.requires.filed.under)) written.4

pub returns-clause-after : goal.returns-clause-after
returns-clause-after c = λ key.
    let written = c.get_mut.follows.holds c.args.item in
    filed-after c.args.items.now.entries c.args.item.id key c.args.item _ refl ((written.3 c.requires.known).0 key)
