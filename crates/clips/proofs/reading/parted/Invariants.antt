use Rattle.std.proofs.Common.{◌≡◌, ◌++◌}
use Rattle.clips.specs.Placed.{elements_in, places_in}
use Rattle.clips.proofs.reading.parted.Given as goal

-- those so far are parted
abbrev pub invariant-loop-p : goal.invariant-loop-p
invariant-loop-p l = record {
  elements : l.elements.items ≡ elements_in l.yielded;
  places : l.places.items ≡ places_in l.yielded;
  parts : l.fn.placed ≡ l.yielded ++ l.p-iterator.rest.items;
}
