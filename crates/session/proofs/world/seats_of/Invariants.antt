-- The first replicas took the elements.
use Rattle.std.proofs.Common.{◌≡◌, replicate, vec_len}
use Rattle.session.specs.inner.Standing.{SeatsStandFor}
use Rattle.session.specs.Worlds.{delivered, fresh}
use Rattle.session.proofs.world.seats_of.Given as goal

abbrev pub invariant-loop : goal.invariant-loop
invariant-loop l = record {
  stand : SeatsStandFor l.seats.items (replicate l.counter (delivered l.elements fresh));
  long : vec_len l.seats ≡ l.counter;
}
