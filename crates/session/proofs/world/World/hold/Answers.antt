use Rattle.std.proofs.Common.{refl}
use Rattle.session.specs.Worlds.{holding, seat_at, state_at, with_id}
use Rattle.session.proofs.WorldLaws.{seat-after, seat-stands}
use Rattle.session.proofs.world.World.hold.Goals as goal

pub returns : goal.returns
returns c =
    seat-after c.args.self.now _ c.args.at c.hold.new.self
    (λ w. holding (with_id c.args.id.now (state_at w c.args.at).held) (seat_at w c.args.at)) refl refl refl refl
    refl
    (λ w stands. c.in_ok-hold.ensures (seat_at w c.args.at)
    (seat-stands c.args.self.now w c.args.at c.index_mut-seat.result.now stands c.requires.at
    c.index_mut-seat.ensures.value))
