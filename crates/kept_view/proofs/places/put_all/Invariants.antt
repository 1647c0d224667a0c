use Rattle.std.proofs.Common.{◌≡◌, ◌++◌, vec_len, vec_capacity}
use Rattle.kept_view.specs.inner.Putting.{all_put}
use Rattle.kept_view.proofs.places.put_all.Given as goal

-- the elements so far are put, and the others are left
abbrev pub invariant-loop-put : goal.invariant-loop-put
invariant-loop-put l = record {
  items : l.elements.items ≡ all_put l.yielded l.initial.elements.items;
  len : vec_len l.elements ≡ vec_len l.initial.elements;
  room : vec_capacity l.elements ≡ vec_capacity l.initial.elements;
  parts : l.fn.puts.items ≡ l.yielded ++ l.put-iterator.rest.items;
}
