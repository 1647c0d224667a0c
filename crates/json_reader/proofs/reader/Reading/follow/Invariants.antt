use Rattle.std.proofs.Common.{◌-◌, length}
use Rattle.json_reader.specs.inner.Writing.{ReadsOn}
use Rattle.json_reader.proofs.reader.Reading.follow.Given as goal

abbrev pub invariant-loop-next : goal.invariant-loop-next
invariant-loop-next l = ReadsOn l.bytes l.at l.fn.self l.next l.self

abbrev pub decreases-loop-next : goal.decreases-loop-next
decreases-loop-next l = length l.bytes - l.next
