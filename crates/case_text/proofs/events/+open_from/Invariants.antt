use Rattle.std.proofs.Common.{length}
use Rattle.case_text.proofs.events.+open_from.Given as goal

-- the events that are left
abbrev pub decreases-open_from : goal.decreases-open_from
decreases-open_from l = length l.events.now
