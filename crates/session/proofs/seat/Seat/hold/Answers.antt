use Rattle.std.proofs.Common.{subst}
use Rattle.reconcile.specs.Ids.{HasAdded}
use Rattle.session.specs.Worlds.{with_id}
use Rattle.session.proofs.HeldLaws.{added-is}
use Rattle.session.proofs.SeatLaws.{holding-stands}
use Rattle.session.proofs.seat.Seat.hold.Goals as goal

pub returns : goal.returns
returns c = λ s stands.
    let id = c.args.id.now in
    let added = subst (λ ids. HasAdded ids id c.hold.new.self.held) stands.replica.held c.in_ok-hold.ensures.held in
    holding-stands c.args.self.now s c.hold.new.self (with_id id s.state.held) stands c.in_ok-hold.ensures.kept
    (added-is s.state.held id c.hold.new.self.held stands.rising added) added.ordered
