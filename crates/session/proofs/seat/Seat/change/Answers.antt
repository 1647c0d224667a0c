use Rattle.std.proofs.Common.{◌≡◌, ◌+◌, Some, Err, length, sym, ap, subst}
use Rattle.view.specs.Shown.{live_elements, shown}
use Rattle.effects.specs.Changed.{OnFault, outcome}
use Rattle.session.specs.declared.seat.Seat.{Seat as KeptSeat}
use Rattle.session.specs.declared.outcome.Outcome.TheVariants.{Given}
use Rattle.session.specs.inner.Standing.{IsActed}
use Rattle.session.specs.Worlds.{change_on}
use Rattle.session.proofs.SeatLaws.{acted-stands, refused-stands, change-given, change-refused, change-left, change-held, change-state}
use Rattle.session.proofs.seat.Seat.change.Goals as goal

pub returns-in_ok-count-in-Ok : goal.returns-in_ok-count-in-Ok
returns-in_ok-count-in-Ok c = λ s stands.
    let old = c.args.self.now in
    let given = c.in-Ok.given in
    let act = change_on c.args.command.now c.args.capture c.args.stamp.time c.args.stamp.nonce s.state in
    subst (λ (h : KeptSeat). IsActed act s (Given given) h) (sym c.in_ok-count-in-Ok.ensures)
    (acted-stands act old s (Given given) (record {
      replica = c.change.new.self;
      taken =
          old.taken + length c.as_slice.result.now;
    }) stands
    (change-state c.args.command.now c.args.capture c.args.stamp.time c.args.stamp.nonce s.state c.change.new.self
    (c.in-Ok.ensures.after s.state stands.replica))
    (change-held c.args.command.now c.args.capture c.args.stamp.time c.args.stamp.nonce s.state)
    (change-given c.args.command.now c.args.capture c.args.stamp.time c.args.stamp.nonce old.replica.stored s.state
    stands.replica.stored given c.in-Ok.ensures.given)
    (ap (λ xs. old.taken + length xs) c.as_slice.ensures))

pub returns-in-Err-Fault : goal.returns-in-Err-Fault
returns-in-Err-Fault c = λ s stands.
    let old = c.args.self.now in
    let is =
    subst (λ stop. OnFault stop (λ refusal. outcome old.replica.stored (shown (live_elements old.replica.stored))
    c.args.command.now c.args.stamp.time c.args.stamp.nonce ≡ Err refusal)) c.in-Err-Fault.field-0-is
    c.in-Err-Fault.ensures.refused in
    refused-stands (change_on c.args.command.now c.args.capture c.args.stamp.time c.args.stamp.nonce s.state) old s
    (Some c.in-Err-Fault.refusal) c.change.new.self stands c.in-Err-Fault.ensures.err
    (change-left c.args.command.now c.args.capture c.args.stamp.time c.args.stamp.nonce old.replica.stored s.state
    stands.replica.stored c.in-Err-Fault.refusal is)
    (change-refused c.args.command.now c.args.capture c.args.stamp.time c.args.stamp.nonce old.replica.stored s.state
    stands.replica.stored c.in-Err-Fault.refusal is)
