use Rattle.std.proofs.Common.{◌+◌, ◌*◌, refl, sym, ◌∙◌, subst}
use Rattle.session_random.specs.Words.{next_word}
use Rattle.replica.specs.State.{turn_on}
use Rattle.session.specs.Worlds.{turn_by}
use Rattle.session.proofs.CallerLemmas.{turn_by-held}
use Rattle.line_replica.specs.Living.{step_text, nonce_of}
use Rattle.line_replica.specs.Standing.{Held, LifeStandsFor}
use Rattle.line_replica.specs.inner.Acting.{IsActed}
use Rattle.line_replica.proofs.LivingLaws.{act-given}
use Rattle.line_replica.proofs.life.Life.turn.Goals as goal

pub returns-clause-given : goal.returns-clause-given
returns-clause-given c = λ l stands.
    let inside = c.self.inside in
    let old : Held =
    record { number = inside.number; generator = inside.generator; head = inside.head; replica = inside.replica } in
    let new : Held = record {
      number = inside.number;
      generator = c.in_ok-nonce.generator;
      head = inside.head;
      replica =
          c.turn.new.replica;
    } in
    let own = subst (λ (h : Held). LifeStandsFor h l) (sym c.self.view_is) stands in
    let st = l.seat.state in
    let n = nonce_of l in
    let nonce = c.in_ok-nonce.ensures.nonce ∙ (λ i. 64 * next_word (own.generator i) + own.number i) in
    act-given (step_text (turn_on c.args.direction c.args.time n st)) (turn_by c.args.direction c.args.time n st) l old
    new c.in_ok-text.text own
    (subst (λ k. IsActed (step_text (turn_on c.args.direction c.args.time k st))
    (turn_by c.args.direction c.args.time k st) c.in_ok-text.text c.turn.new.replica) nonce
    (c.in_ok-text.ensures.acted st own.replica))
    (turn_by-held c.args.direction c.args.time n st) refl c.in_ok-nonce.ensures.generator refl
