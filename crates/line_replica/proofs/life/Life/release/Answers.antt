use Rattle.std.proofs.Common.{false, codes, refl, sym, subst}
use Rattle.elem.specs.Texts.{truth_text}
use Rattle.line_replica.specs.Living.{told}
use Rattle.line_replica.specs.Standing.{Held, LifeStandsFor}
use Rattle.line_replica.proofs.LivingLaws.{release-given}
use Rattle.line_replica.proofs.life.Life.release.Goals as goal

pub returns-clause-given : goal.returns-clause-given
returns-clause-given c = λ l stands.
    let inside = c.self.inside in
    let old : Held =
    record { number = inside.number; generator = inside.generator; head = inside.head; replica = inside.replica } in
    let new : Held = record {
      number = inside.number;
      generator = inside.generator;
      head = inside.head;
      replica =
          c.release.new.self;
    } in
    let own = subst (λ (h : Held). LifeStandsFor h l) (sym c.self.view_is) stands in
    release-given c.args.id.now l old new c.in_ok-text.text (told (codes "held") (truth_text false)) own
    c.in_ok-text.ensures c.release.ensures.held c.release.ensures.kept refl refl refl
