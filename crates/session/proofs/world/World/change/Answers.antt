use Rattle.std.proofs.Common.{◌+◌, ◌*◌, ap, ◌∙◌, subst}
use Rattle.rand_pcg.specs.Lcg.{Lcg}
use Rattle.session.specs.inner.Standing.{IsActed}
use Rattle.session_random.specs.Words.{next_word}
use Rattle.session.specs.Worlds.{change_on, nonce_at, seat_at, state_at}
use Rattle.session.proofs.WorldLaws.{act-after, seat-stands}
use Rattle.session.proofs.world.World.change.Goals as goal

pub returns : goal.returns
returns c =
    act-after c.args.self.now c.note.new.self c.args.at c.change.new.self c.in_ok-outcome.outcome
    (λ w. change_on c.args.command.now c.args.capture c.args.time (nonce_at w c.args.at) (state_at w c.args.at))
    c.in_ok-note.ensures.seats (c.in_ok-note.ensures.generator
    ∙ c.draw-nonce.ensures.drawn) c.in_ok-note.ensures.messages c.in_ok-note.ensures.refused
    c.in_ok-note.ensures.events
    (λ w stands.
    subst (λ nonce. IsActed (change_on c.args.command.now c.args.capture c.args.time nonce (state_at w c.args.at))
    (seat_at w c.args.at) c.in_ok-outcome.outcome c.change.new.self)
    (c.draw-nonce.ensures.nonce ∙ ap (λ (g : Lcg). 64 * next_word g + c.args.at) stands.generator)
    (c.in_ok-outcome.ensures (seat_at w c.args.at) (seat-stands c.args.self.now w c.args.at c.index_mut-seat.result.now
    stands c.requires.at c.index_mut-seat.ensures.value)))
