use Rattle.std.proofs.Common.{◌+◌, ◌*◌, refl, sym, ◌∙◌, subst}
use Rattle.session_random.specs.Words.{next_word}
use Rattle.replica.specs.State.{outcome_on}
use Rattle.session.specs.Worlds.{change_on}
use Rattle.session.proofs.CallerLemmas.{change-held}
use Rattle.line_replica.specs.Living.{command_text, nonce_of}
use Rattle.line_replica.specs.Standing.{Held, LifeStandsFor}
use Rattle.line_replica.specs.inner.Acting.{IsActed}
use Rattle.line_replica.proofs.LivingLaws.{act-given}
use Rattle.line_replica.proofs.life.Life.change.Goals as goal

pub returns-clause-given : goal.returns-clause-given
returns-clause-given c = λ l stands.
    let inside = c.self.inside in
    let old : Held =
    record { number = inside.number; generator = inside.generator; head = inside.head; replica = inside.replica } in
    let new : Held = record {
      number = inside.number;
      generator = c.in_ok-nonce.generator;
      head = inside.head;
      replica =
          c.change.new.replica;
    } in
    let own = subst (λ (h : Held). LifeStandsFor h l) (sym c.self.view_is) stands in
    let st = l.seat.state in
    let n = nonce_of l in
    let nonce = c.in_ok-nonce.ensures.nonce ∙ (λ i. 64 * next_word (own.generator i) + own.number i) in
    act-given (command_text (outcome_on c.args.command.now c.args.time n st))
    (change_on c.args.command.now c.args.capture c.args.time n st) l old new c.in_ok-text.text own
    (subst (λ k. IsActed (command_text (outcome_on c.args.command.now c.args.time k st))
    (change_on c.args.command.now c.args.capture c.args.time k st) c.in_ok-text.text c.change.new.replica) nonce
    (c.in_ok-text.ensures.acted st own.replica))
    (change-held c.args.command.now c.args.capture c.args.time n st) refl c.in_ok-nonce.ensures.generator refl
