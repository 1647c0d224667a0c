-- those so far are as new
use Rattle.std.proofs.Common.{◌≡◌, ◌++◌, map}
use Rattle.effects.specs.Copying.{as_new}
use Rattle.effects.proofs.copying.all_as_new.Given as goal

abbrev pub invariant-loop-e : goal.invariant-loop-e
invariant-loop-e l = record {
  new : l.new.items ≡ map (as_new l.fn.stamp.time l.fn.stamp.nonce) l.yielded;
  parts : l.fn.elements ≡ l.yielded ++ l.e-iterator.rest.items;
}
