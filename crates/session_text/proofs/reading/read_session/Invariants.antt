use Rattle.std.proofs.Common.{◌-◌, length}
use Rattle.session_text.proofs.Behind.{IsReadTo}
use Rattle.session_text.proofs.reading.read_session.Given as goal

-- the texts so far lead up to the offset, and that of the header is among them
abbrev pub invariant-texts : goal.invariant-texts
invariant-texts l = IsReadTo l.bytes l.feed l.at

abbrev pub decreases-texts : goal.decreases-texts
decreases-texts l = length l.bytes - l.at
