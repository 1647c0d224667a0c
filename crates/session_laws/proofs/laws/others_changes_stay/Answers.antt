use Rattle.history.specs.declared.planned.Direction.TheVariants as directions
use Rattle.session_laws.proofs.Leaving.{turn-leaves}
use Rattle.session_laws.proofs.laws.others_changes_stay.Goals as goal

pub returns-clause-undo : goal.returns-clause-undo
returns-clause-undo c = λ session count at time nonce turn is among found. turn-leaves session is count at among time
    nonce turn directions.Undo found

pub returns-clause-redo : goal.returns-clause-redo
returns-clause-redo c = λ session count at time nonce turn is among found. turn-leaves session is count at among time
    nonce turn directions.Redo found
