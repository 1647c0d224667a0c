use Rattle.std.proofs.Common.{refl, sym, subst}
use Rattle.line_replica.specs.Standing.{Held, LifeStandsFor}
use Rattle.line_replica.proofs.LivingLaws.{taking-given}
use Rattle.line_replica.proofs.life.Life.take.Goals as goal

pub returns-clause-given : goal.returns-clause-given
returns-clause-given c = λ l stands.
    let inside = c.self.inside in
    let old : Held =
    record { number = inside.number; generator = inside.generator; head = inside.head; replica = inside.replica } in
    let new : Held = record {
      number = inside.number;
      generator = inside.generator;
      head = inside.head;
      replica =
          c.take.new.replica;
    } in
    let own = subst (λ (h : Held). LifeStandsFor h l) (sym c.self.view_is) stands in
    taking-given c.args.elements.now l old new c.in_ok-text.text own c.in_ok-text.ensures.text
    (c.in_ok-text.ensures.after l.seat.state own.replica) refl refl refl
