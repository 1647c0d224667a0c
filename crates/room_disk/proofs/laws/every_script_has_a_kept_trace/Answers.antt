use Rattle.room_disk.proofs.KeptScripts.{kept-trace-exists}
use Rattle.room_disk.proofs.laws.every_script_has_a_kept_trace.Goals as goal

pub returns : goal.returns
returns c = kept-trace-exists c.reading_exists.ensures
