use Rattle.std.proofs.Common.{All, take}
use Rattle.json_text.specs.Value.{IsCompact}
use Rattle.elem_read.proofs.reading.is_shallow.Given as goal

abbrev pub invariant-loop-at : goal.invariant-loop-at
invariant-loop-at l = All (λ member. IsCompact 119 member.value) (take l.at l.members)
