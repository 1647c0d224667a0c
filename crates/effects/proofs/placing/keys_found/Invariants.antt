use Rattle.effects.proofs.RekeyedLaws.{HasFound}
use Rattle.effects.proofs.placing.keys_found.Given as goal

abbrev pub invariant-loop-id : goal.invariant-loop-id
invariant-loop-id l = HasFound l.keys l.lookup.rekeyed.now l.lookup.shown.now l.id-iterator
