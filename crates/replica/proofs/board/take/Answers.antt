use Rattle.replica.proofs.StoredLaws.{taken-by}
use Rattle.replica.proofs.board.take.Goals as goal

pub returns-clause-stored : goal.returns-clause-stored
returns-clause-stored c =
    taken-by c.args.store.now.elements c.reserve.new.self.elements c.args.list.now c.in_ok-copies.copies
    c.take_all.new.self.elements
    c.requires.rise c.reserve.ensures.elements c.in_ok-copies.ensures.exact c.take_all.ensures
