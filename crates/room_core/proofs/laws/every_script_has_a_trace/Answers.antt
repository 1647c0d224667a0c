use Rattle.room_core.proofs.Scripts.{trace-exists}
use Rattle.room_core.proofs.laws.every_script_has_a_trace.Goals as goal

pub returns : goal.returns
returns c = trace-exists c.reading_exists.ensures
