use Rattle.effects.proofs.CopiedLaws.{HasPlaces}
use Rattle.effects.proofs.copying.places_found.Given as goal

abbrev pub invariant-loop-id : goal.invariant-loop-id
invariant-loop-id l = HasPlaces l.places l.ids l.lookup.shown.now l.id-iterator
