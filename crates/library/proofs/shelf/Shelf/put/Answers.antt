use Rattle.std.proofs.Common.{sym, ◌∙◌}
use Rattle.std.proofs.lemmas.Result.{on_ok_weaker}
use Rattle.library.specs.inner.Filed.{items_in}
use Rattle.library.proofs.BestLaws.{AreBest-put}
use Rattle.library.proofs.FiledLaws.{filed-is}
use Rattle.library.proofs.shelf.Shelf.put.Goals as goal

pub returns-clause-best : goal.returns-clause-best
returns-clause-best c =
    on_ok_weaker c.put_among.result
    (λ put items best. AreBest-put items (items_in c.self.inside.items.entries) (items_in c.put_among.new.items.entries)
    c.args.item (rw c.self.view_is best) put)
    c.put_among.ensures.after

pub returns-clause-known : goal.returns-clause-known
returns-clause-known c = λ other found apart.
    c.put_among.ensures.known other (sym (filed-is c.self.inside.items.entries c.args.item.id c.self.invariant.under)
    ∙ rw c.self.view_is found) apart
