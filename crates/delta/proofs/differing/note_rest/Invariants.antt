-- The changes tell of the first names.
use Rattle.std.proofs.Common.{ℕ, List, ◌++◌, take}
use Rattle.elem.specs.Facts.{names}
use Rattle.delta.specs.inner.Told.{AreChangesOf}
use Rattle.delta.proofs.differing.note_rest.Given as goal

abbrev pub invariant-loop-member : goal.invariant-loop-member
invariant-loop-member l = (known : List (List ℕ)) → AreChangesOf l.old l.new known l.initial.changes.items
    → AreChangesOf l.old l.new (known ++ names (take l.member-index l.member-items)) l.changes.items
