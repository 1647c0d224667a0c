use Rattle.std.proofs.Common.{◌≡◌, ◌+◌, ◌++◌, length}
use Rattle.kept_view.specs.inner.Coming.{rekeyed}
use Rattle.kept_view.proofs.coming.set_keys.Given as goal

-- the keys so far are set, and the others are left
abbrev pub invariant-loop-key : goal.invariant-loop-key
invariant-loop-key l = record {
  items : l.elements.items ≡ rekeyed l.fn.rekeying.start l.yielded l.initial.elements.items;
  place : l.at ≡ l.fn.rekeying.start + length l.yielded;
  parts : l.fn.rekeying.keys ≡ l.yielded ++ l.key-iterator.rest.items;
}
