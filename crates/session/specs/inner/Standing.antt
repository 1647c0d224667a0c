-- The worlds of the definitions that what the program holds stands for. Only contracts of private
-- functions cite this.
use Rattle.std.specs.Prelude.{◌≡◌, ◌+◌, List, [], ◌∷◌, ◌++◌, length, vec_len}
use Rattle.std.specs.List.{AllZip}
use Rattle.reconcile.specs.Ids.{AreStrictlySorted}
use Rattle.replica.specs.Standing.{ReplicaStandsFor}
use Rattle.session.specs.declared.seat.Seat.{Seat as KeptSeat}
use Rattle.session.specs.declared.world.World.{World as Played}
use Rattle.session.specs.declared.outcome.Outcome.{Outcome}
use Rattle.session.specs.Worlds.{Act, Seat, World, acted, given_of, with_refused}

-- The replica stands for the state, whose held ids rise, and the number is that of the updates
-- taken.
pub record SeatStandsFor (held : KeptSeat) (s : Seat) : Type 0 where
  pub replica : ReplicaStandsFor held.replica s.state
  pub rising : AreStrictlySorted s.state.held
  pub taken : held.taken ≡ length s.taken

-- A call told this outcome of an act at a seat, and the replica stands for the state after it.
pub record IsActed (act : Act) (s : Seat) (outcome : Outcome) (held : KeptSeat) : Type 0 where
  pub told : outcome ≡ act.outcome
  pub after : SeatStandsFor held (acted act s)

-- one for one, in their order
abbrev pub SeatsStandFor : List KeptSeat → List Seat → Type 0
SeatsStandFor others seats = AllZip SeatStandsFor others seats

-- The replicas stand for those of the world, and all else is the same.
pub record WorldStandsFor (played : Played) (w : World) : Type 0 where
  pub seats : SeatsStandFor played.seats.items w.seats
  pub messages : played.messages.items ≡ w.messages
  pub generator : played.generator ≡ w.generator
  pub events : played.events ≡ w.events
  pub refused : played.refused.items ≡ w.refused

-- What the program holds after an event, which makes such worlds of worlds, stands for what it
-- makes of what was stood for; there are as many replicas, and one event more.
pub record IsWorldAfter (old : Played) (makes : World → World) (new : Played) : Type 0 where
  pub world : (w : World) → WorldStandsFor old w → WorldStandsFor new (makes w)
  pub seats : vec_len new.seats ≡ vec_len old.seats
  pub events : new.events ≡ old.events + 1

-- An outcome is noted: its elements are a message, and the event is among the refused ones if it is
-- a refusal.
pub record IsNoted (old : Played) (outcome : Outcome) (new : Played) : Type 0 where
  pub seats : new.seats ≡ old.seats
  pub messages : new.messages.items ≡ old.messages.items ++ given_of outcome ∷ []
  pub generator : new.generator ≡ old.generator
  pub events : new.events ≡ old.events + 1
  pub refused : new.refused.items ≡ with_refused old.events outcome old.refused.items
