-- What the command gives is stored.
use Rattle.std.proofs.Common.{◌≡◌, Ok, List, sym, subst}
use Rattle.elem.specs.ElementValue.{ElementValue}
use Rattle.view.specs.Shown.{live_elements, shown}
use Rattle.effects.specs.Changed.{outcome}
use Rattle.replica.specs.Standing.{ReplicaStandsFor}
use Rattle.replica.specs.State as state
use Rattle.replica.specs.State.{State}
use Rattle.replica.proofs.replica.Replica.change.Goals as goal

pub store_given-requires : goal.store_given-requires
store_given-requires c = record {
  given = record {
    command = c.args.command.now;
    time = c.args.stamp.time;
    nonce = c.args.stamp.nonce;
    is = c.in_ok-given.ensures.given;
  };
}

pub returns-clause-after : goal.returns-clause-after
returns-clause-after c =
    let new = c.store_given.new.self in
    λ (s : State) st.
    let found : state.outcome_on c.args.command.now c.args.stamp.time c.args.stamp.nonce s ≡ Ok c.in_ok-given.given =
    subst (λ (es : List ElementValue). outcome es (shown (live_elements es)) c.args.command.now c.args.stamp.time
    c.args.stamp.nonce
    ≡ Ok c.in_ok-given.given) st.stored c.in_ok-given.ensures.given in
    subst (λ o. ReplicaStandsFor new (state.after_outcome c.args.capture o s)) (sym found)
    (c.in_ok-store_given.ensures.after s st)
