-- Those so far are put, and there is room for the others.
use Rattle.std.proofs.Common.{◌≡◌, ◌+◌, ◌≤◌, ◌++◌, length, vec_len, vec_capacity}
use Rattle.undo_model.specs.Carrying.{with_all_put}
use Rattle.snapshot.proofs.captured.put_all.Given as goal

abbrev pub invariant-loop-e : goal.invariant-loop-e
invariant-loop-e l = record {
  put : l.elements.items ≡ with_all_put l.yielded l.initial.elements.items;
  parts : l.fn.news.items ≡ l.yielded ++ l.e-iterator.rest.items;
  room : length l.e-iterator.rest.items + vec_len l.elements ≤ vec_capacity l.elements;
}
