-- those so far are without their places
use Rattle.std.proofs.Common.{◌≡◌, ◌++◌}
use Rattle.clips.specs.Placed.{elements_in}
use Rattle.library.proofs.reading.without_places.Given as goal

abbrev pub invariant-loop-p : goal.invariant-loop-p
invariant-loop-p l = record {
  elements : l.elements.items ≡ elements_in l.yielded;
  parts : l.fn.placed ≡ l.yielded ++ l.p-iterator.rest.items;
}
