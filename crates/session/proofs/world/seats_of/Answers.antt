use Rattle.std.proofs.Common.{◌≡◌, ◌+◌, [], ◌∷◌, ◌++◌, replicate, sym, subst, vec_len, arith}
use Rattle.std.proofs.lemmas.List.{replicate_more}
use Rattle.session.specs.inner.Standing.{SeatStandsFor, SeatsStandFor}
use Rattle.session.specs.Worlds.{delivered, fresh}
use Rattle.session.proofs.WorldLaws.{zip-push}
use Rattle.session.proofs.world.seats_of.Goals as goal

pub loop-preserved : goal.loop-preserved
loop-preserved c =
    let seat = delivered c.args.elements.now fresh in
    let n = c.loop.counter in
    let more : vec_len c.push.new.self ≡ c.loop.counter + 1 =
    omega (arith, c.in_ok-push.ensures.len, c.loop.invariant.long) in
    record {
      stand = subst (SeatsStandFor c.push.new.self.items) (replicate_more n seat)
          (subst (λ hs. SeatsStandFor hs (replicate n seat ++ seat ∷ [])) (sym c.in_ok-push.ensures.items)
          (zip-push SeatStandsFor c.loop.seats.items (replicate n seat) c.deliver.new.self seat c.loop.invariant.stand
          (c.in_ok-deliver.ensures fresh c.new-seat.ensures)));
      long = more;
    }
