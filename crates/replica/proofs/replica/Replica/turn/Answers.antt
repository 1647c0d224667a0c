-- The planned step is put.
use Rattle.std.proofs.Common.{sym, subst}
use Rattle.replica.specs.Standing.{Kept, ReplicaStandsFor}
use Rattle.replica.specs.State as state
use Rattle.replica.specs.State.{State}
use Rattle.replica.proofs.replica.Replica.turn.Goals as goal

pub returns-clause-after : goal.returns-clause-after
returns-clause-after c =
    let call = c.in_ok-plan.ensures.call in
    λ (s : State) st.
    subst (ReplicaStandsFor c.put_step.new.self) (λ i. state.after_turn (call.of_direction i) (call.of_stamp i).time
    (call.of_stamp i).nonce s)
    (c.in_ok-put_step.ensures.after s (subst (λ (k : Kept). ReplicaStandsFor k s) (sym c.plan.ensures.kept) st))
