use Rattle.std.proofs.Common.{◌+◌, sym, ap, subst}
use Rattle.session.specs.declared.seat.Seat.{Seat as KeptSeat}
use Rattle.session.specs.inner.Standing.{SeatStandsFor}
use Rattle.session.specs.Worlds.{delivered}
use Rattle.session.proofs.SeatLaws.{delivered-stands}
use Rattle.session.proofs.seat.Seat.deliver.Goals as goal

pub returns : goal.returns
returns c = λ s stands.
    let old = c.args.self.now in
    subst (λ (h : KeptSeat). SeatStandsFor h (delivered c.args.list.now s)) (sym c.in_ok-count-2.ensures)
    (delivered-stands c.args.list.now old s (record {
      replica = c.deliver.new.self;
      taken =
          old.taken + c.in_ok-count.count;
    }) stands
    (c.in_ok-count.ensures.after s.state stands.replica) (ap (λ n. old.taken + n) c.in_ok-count.ensures.count))
