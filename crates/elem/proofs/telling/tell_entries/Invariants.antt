use Rattle.std.proofs.Common.{take}
use Rattle.std.specs.List.{AllByRecursion}
use Rattle.std.specs.Str.{IsUtf8}
use Rattle.elem.specs.declared.parts.BoundRef.{BoundRef}
use Rattle.elem.proofs.telling.tell_entries.Given as goal

abbrev pub invariant-loop-entry : goal.invariant-loop-entry
invariant-loop-entry l = AllByRecursion (λ (entry : BoundRef). IsUtf8 entry.id) (take l.entry-index l.entry-items)
