use Rattle.std.proofs.Common.{subst}
use Rattle.reconcile.specs.Ids.{HasDropped}
use Rattle.session.specs.Worlds.{without_id}
use Rattle.session.proofs.HeldLaws.{dropped-is}
use Rattle.session.proofs.SeatLaws.{holding-stands}
use Rattle.session.proofs.seat.Seat.release.Goals as goal

pub returns : goal.returns
returns c = λ s stands.
    let id = c.args.id.now in
    let dropped = subst (λ ids. HasDropped ids id c.release.new.self.held) stands.replica.held c.release.ensures.held in
    holding-stands c.args.self.now s c.release.new.self (without_id id s.state.held) stands c.release.ensures.kept
    (dropped-is s.state.held id c.release.new.self.held stands.rising dropped) dropped.ordered
