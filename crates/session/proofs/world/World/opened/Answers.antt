use Rattle.std.proofs.Common.{replicate, refl, subst}
use Rattle.session.specs.inner.Standing.{SeatsStandFor}
use Rattle.session.specs.Worlds.{delivered, fresh}
use Rattle.session.proofs.world.World.opened.Goals as goal

pub returns-clause-world : goal.returns-clause-world
returns-clause-world c = record {
  seats =
      subst (λ es. SeatsStandFor c.in_ok-seats_of.field-0.items
      (replicate c.args.session.now.replicas (delivered es fresh))) c.opening_elements.ensures
      c.in_ok-seats_of.ensures.seats;
  messages = c.new.ensures.items;
  generator = c.generator_of.ensures;
  events = refl;
  refused = c.new-2.ensures.items;
}
