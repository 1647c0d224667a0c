use Rattle.std.proofs.Common.{◌≡◌, [], subst, arith}
use Rattle.std.proofs.lemmas.List.{nil_from_length}
use Rattle.elem_store.specs.Updates.{AreStored}
use Rattle.elem_store.proofs.StoreLaws.{AreStored-append, AreStored-itself}
use Rattle.elem_store.proofs.store.Store.take_list.Goals as goal

pub returns-then-len-eq0-clause-stored : goal.returns-then-len-eq0-clause-stored
returns-then-len-eq0-clause-stored c updates are =
    let none : c.args.self.now.elements ≡ [] =
    nil_from_length _ (omega (arith, c.len.ensures.exact, c.if-len-eq0.true)) in
    let news = c.in_ok-self.field-0.elements in
    AreStored-append updates c.args.elements [] news news (subst (AreStored updates) none are) c.in_ok-self.ensures
    (AreStored-itself news c.in_ok-self.ensures.ordered)

pub returns-clause-stored : goal.returns-clause-stored
returns-clause-stored c updates are = c.take_all.ensures updates (rw c.reserve.ensures.elements are)
