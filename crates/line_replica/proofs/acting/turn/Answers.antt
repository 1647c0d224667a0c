use Rattle.std.proofs.Common.{◌≡◌, Err, Some, sym, subst}
use Rattle.std.proofs.lemmas.Result.{IfOk-weaker}
use Rattle.history.specs.Stacks.{OnFull}
use Rattle.replica.specs.Standing.{Kept, ReplicaStandsFor}
use Rattle.replica.specs.State.{State, after_turn, turn_on}
use Rattle.line_replica.proofs.ActingLaws.{turn-full, turn-made}
use Rattle.line_replica.proofs.acting.turn.Goals as goal

pub returns-in_ok-text-in-Ok-clause-acted : goal.returns-in_ok-text-in-Ok-clause-acted
returns-in_ok-text-in-Ok-clause-acted c = λ s stands.
    let call = c.in-Ok.ensures.call in
    let own = subst (λ (r : Kept). ReplicaStandsFor r s) (sym c.in-Ok.ensures.kept) stands in
    turn-made c.args.direction c.args.stamp.time c.args.stamp.nonce s c.in-Ok.plan.step c.in_ok-text-in-Ok.text
    c.put.new.replica
    (c.in-Ok.ensures.step s stands) c.in_ok-text-in-Ok.ensures.text
    (subst (ReplicaStandsFor c.put.new.replica) (λ i. after_turn (call.of_direction i) (call.of_stamp i).time
    (call.of_stamp i).nonce s) (c.in_ok-text-in-Ok.ensures.after s own))

pub returns-in-Err-Fault-clause-acted : goal.returns-in-Err-Fault-clause-acted
returns-in-Err-Fault-clause-acted c =
    let old = c.args.replica.now in
    let id = c.in-Err-Fault.field-0-0.0 in
    let full = subst (λ stop. OnFull stop (λ id. (t : State) → ReplicaStandsFor old t
    → turn_on c.args.direction c.args.stamp.time c.args.stamp.nonce t ≡ Some (Err id))) c.in-Err-Fault.field-0-is
    c.in-Err-Fault.ensures.full in
    IfOk-weaker c.refusal_text.result _ _
    (λ text told s stands.
    turn-full c.args.direction c.args.stamp.time c.args.stamp.nonce s id text c.plan.new.self (full s stands) told
    (subst (λ (r : Kept). ReplicaStandsFor r s) (sym c.in-Err-Fault.ensures.kept) stands))
    c.refusal_text.ensures
