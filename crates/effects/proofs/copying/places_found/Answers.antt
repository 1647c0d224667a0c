use Rattle.effects.proofs.CopiedLaws.{places-all, places-more, places-none}
use Rattle.effects.proofs.FindingLaws.{seen-distinct}
use Rattle.effects.proofs.copying.places_found.Goals as goal

pub loop-id-init : goal.loop-id-init
loop-id-init c =
    places-none c.args.ids.now c.args.lookup.now.shown.now c.new-places.result c.into_iter-id-iterator.result
    c.new-places.ensures.empty c.into_iter-id-iterator.ensures.into_iter_gives.0

pub loop-id-preserved : goal.loop-id-preserved
loop-id-preserved c =
    places-more c.args.ids.now c.args.lookup.now.shown.now c.loop-id.places c.insert.new.self c.loop-id.id-iterator
    c.next.new.self c.in-Some.id.now c.in-Some-found_place.i (seen-distinct c.args.lookup.now c.requires)
    c.loop-id.invariant c.in-Some.ensures.steps c.in-Some-found_place.ensures c.in_ok-insert.ensures.updates

pub returns : goal.returns
returns c =
    places-all c.args.ids.now c.args.lookup.now.shown.now c.loop-id.places c.loop-id.id-iterator c.loop-id.invariant
    c.in-None.ensures.steps.0
