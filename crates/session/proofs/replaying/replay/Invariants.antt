-- The world stands for that after the first events.
use Rattle.std.proofs.Common.{◌≡◌, vec_len}
use Rattle.session.specs.inner.Standing.{WorldStandsFor}
use Rattle.session.specs.Worlds.{world_after}
use Rattle.session.proofs.replaying.replay.Given as goal

abbrev pub invariant-loop-event : goal.invariant-loop-event
invariant-loop-event l = record {
  stands : WorldStandsFor l.world (world_after l.session l.event-index);
  seats : vec_len l.world.seats ≡ l.session.replicas;
  events : l.world.events ≡ l.event-index;
}
