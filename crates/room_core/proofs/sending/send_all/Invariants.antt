-- The first texts were tried.
use Rattle.std.proofs.Common.{◌≡◌, ◌≤◌, drop}
use Rattle.room_core.specs.Planned.{texts_told}
use Rattle.room_core.specs.Told.{HaveTried}
use Rattle.room_core.proofs.sending.send_all.Given as goal

abbrev pub invariant-loop-link : goal.invariant-loop-link
invariant-loop-link g l = record {
  tried : HaveTried (g.L.Links.seen l.initial.links) (g.L.Links.seen l.links) (texts_told l.told) l.gone.items
      (drop l.link-index (texts_told l.told));
  port : (g.L.Links.seen l.links).port ≡ (g.L.Links.seen l.initial.links).port;
  listens : (g.L.Links.seen l.links).listens ≡ (g.L.Links.seen l.initial.links).listens;
  counted : (g.L.Links.seen l.initial.links).faults ≤ (g.L.Links.seen l.links).faults;
  gone_counted : (g.L.Links.seen l.initial.links).gone ≤ (g.L.Links.seen l.links).gone;
}
