use Rattle.std.proofs.Common.{◌-◌, length}
use Rattle.json_reader.specs.inner.Machine.{AwaitsName}
use Rattle.json_reader.specs.inner.Writing.{ReadsOn}
use Rattle.json_reader.proofs.reader.Reading.take_members.Given as goal

abbrev pub invariant-loop-colon : goal.invariant-loop-colon
invariant-loop-colon l = ReadsOn l.bytes l.at l.fn.self l.next l.self × AwaitsName l.self.machine

abbrev pub decreases-loop-colon : goal.decreases-loop-colon
decreases-loop-colon l = length l.bytes - l.next
