use Rattle.std.proofs.Common.{◌≡◌, ◌≤◌, ◌++◌, List, length}
use Rattle.elem.specs.ElementValue.{ElementValue}
use Rattle.elem_store.specs.Updates.{AreStored}
use Rattle.elem_store.proofs.store.Store.take_all.Given as goal

-- the elements so far are taken, and there is room for the others
abbrev pub invariant-loop-e : goal.invariant-loop-e
invariant-loop-e l = record {
  stored : (updates : List ElementValue) → AreStored updates l.initial.self.elements
      → AreStored (updates ++ l.yielded) l.self.elements;
  parts : l.fn.elements ≡ l.yielded ++ l.e-iterator.rest.items;
  room : length l.e-iterator.rest.items ≤ l.self.spare;
}
