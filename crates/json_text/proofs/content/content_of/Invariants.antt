use Rattle.std.proofs.Common.{◌-◌, length}
use Rattle.json_text.proofs.Contents.{Reading}
use Rattle.json_text.proofs.content.content_of.Given as goal

abbrev pub invariant-loop-text : goal.invariant-loop-text
invariant-loop-text l = Reading l.bytes l.at l.next l.text.items

abbrev pub decreases-loop-text : goal.decreases-loop-text
decreases-loop-text l = length l.bytes - l.next
