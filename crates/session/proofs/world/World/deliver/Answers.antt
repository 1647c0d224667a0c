use Rattle.std.proofs.Common.{refl, ◌∙◌, subst}
use Rattle.session.specs.inner.Standing.{SeatStandsFor}
use Rattle.session.specs.Worlds.{all_picked, delivered, seat_at}
use Rattle.session.proofs.WorldLaws.{seat-after, seat-stands}
use Rattle.session.proofs.world.World.deliver.Goals as goal

pub returns : goal.returns
returns c =
    seat-after c.args.self.now _ c.args.to c.deliver.new.self
    (λ w. delivered (all_picked w.messages c.args.picks.now) (seat_at w c.args.to)) refl refl refl refl refl
    (λ w stands.
    subst (λ list. SeatStandsFor c.deliver.new.self (delivered list (seat_at w c.args.to)))
    (c.as_slice-2.ensures.value ∙ c.in_ok-list.ensures ∙ (λ i. all_picked (stands.messages i) (c.as_slice.ensures i)))
    (c.in_ok-deliver.ensures (seat_at w c.args.to) (seat-stands c.args.self.now w c.args.to c.index_mut-seat.result.now
    stands c.requires.to c.index_mut-seat.ensures.value)))
