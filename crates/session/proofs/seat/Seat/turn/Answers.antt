use Rattle.std.proofs.Common.{◌≡◌, ◌+◌, Some, None, Ok, Err, length, sym, ap, ◌∙◌, subst, add-zero}
use Rattle.history.specs.Stacks.{OnFull}
use Rattle.effects.specs.declared.refusal.Refusal.TheVariants.{VersionFull}
use Rattle.replica.specs.Standing.{ReplicaStandsFor}
use Rattle.replica.specs.State.{State, IsStepAnswer, turn_on}
use Rattle.session.specs.declared.seat.Seat.{Seat as KeptSeat}
use Rattle.session.specs.declared.outcome.Outcome.TheVariants.{Given, Refused}
use Rattle.session.specs.inner.Standing.{IsActed}
use Rattle.session.specs.Worlds.{turn_by}
use Rattle.session.proofs.SeatLaws.{acted-stands, refused-stands, turn-told, turn-left, turn_by-held, turn-state}
use Rattle.session.proofs.seat.Seat.turn.Goals as goal

pub returns-in_ok-count-in-Ok-Done : goal.returns-in_ok-count-in-Ok-Done
returns-in_ok-count-in-Ok-Done c = λ s stands.
    let old = c.args.self.now in
    let given = c.in-Ok-Done.given in
    let act = turn_by c.args.direction c.args.stamp.time c.args.stamp.nonce s.state in
    let answer =
    subst (λ step. IsStepAnswer step (turn_on c.args.direction c.args.stamp.time c.args.stamp.nonce s.state))
    c.in-Ok-Done.field-0-is (c.in-Ok-Done.ensures.step s.state stands.replica) in
    subst (λ (h : KeptSeat). IsActed act s (Given given) h) (sym c.in_ok-count-in-Ok-Done.ensures)
    (acted-stands act old s (Given given) (record {
      replica = c.turn.new.self;
      taken =
          old.taken + length c.as_slice.result.now;
    }) stands
    (turn-state c.args.direction c.args.stamp.time c.args.stamp.nonce s.state c.turn.new.self
    (c.in-Ok-Done.ensures.after s.state stands.replica))
    (turn_by-held c.args.direction c.args.stamp.time c.args.stamp.nonce s.state)
    (ap Given answer.2 ∙ turn-told c.args.direction c.args.stamp.time c.args.stamp.nonce s.state (Some (Ok answer.0))
    answer.1)
    (ap (λ xs. old.taken + length xs) c.as_slice.ensures))

pub returns-in-Ok-Nothing : goal.returns-in-Ok-Nothing
returns-in-Ok-Nothing c = λ s stands.
    let old = c.args.self.now in
    let answer =
    subst (λ step. IsStepAnswer step (turn_on c.args.direction c.args.stamp.time c.args.stamp.nonce s.state))
    c.in-Ok-Nothing.field-0-is (c.in-Ok-Nothing.ensures.step s.state stands.replica) in
    acted-stands (turn_by c.args.direction c.args.stamp.time c.args.stamp.nonce s.state) old s (Refused None)
    (record { replica = c.turn.new.self; taken = old.taken }) stands
    (turn-state c.args.direction c.args.stamp.time c.args.stamp.nonce s.state c.turn.new.self
    (c.in-Ok-Nothing.ensures.after s.state stands.replica))
    (turn_by-held c.args.direction c.args.stamp.time c.args.stamp.nonce s.state)
    (turn-told c.args.direction c.args.stamp.time c.args.stamp.nonce s.state None answer) (sym (add-zero old.taken))

pub returns-in-Err-Fault : goal.returns-in-Err-Fault
returns-in-Err-Fault c = λ s stands.
    let old = c.args.self.now in
    let id = c.in-Err-Fault.field-0-0.0 in
    let told = subst (λ stop. OnFull stop (λ id. (t : State) → ReplicaStandsFor old.replica t
    → turn_on c.args.direction c.args.stamp.time c.args.stamp.nonce t ≡ Some (Err id))) c.in-Err-Fault.field-0-is
    c.in-Err-Fault.ensures.full in
    let found = told s.state stands.replica in
    refused-stands (turn_by c.args.direction c.args.stamp.time c.args.stamp.nonce s.state) old s (Some (VersionFull id))
    c.turn.new.self stands c.in-Err-Fault.ensures.err
    (turn-left c.args.direction c.args.stamp.time c.args.stamp.nonce s.state id found)
    (turn-told c.args.direction c.args.stamp.time c.args.stamp.nonce s.state (Some (Err id)) found)
