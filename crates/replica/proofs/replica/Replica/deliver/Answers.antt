-- What is delivered is stored and carried.
use Rattle.replica.specs.Boards.{told}
use Rattle.replica.proofs.ReplicaLaws.{delivered-told}
use Rattle.replica.proofs.replica.Replica.deliver.Goals as goal

pub invariant_of-self-2 : goal.invariant_of-self-2
invariant_of-self-2 c = (
  delivered-told (told c.self.inside.board) (told c.store_carried.new.self) c.self.inside.held c.args.self.now
      c.self.view_is c.self.invariant.0 c.as_slice.result.now c.in_ok-store_carried.ensures.ok,
  c.store_carried.ensures.untouched,
)
