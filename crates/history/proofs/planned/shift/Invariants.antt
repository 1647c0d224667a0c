-- So many entries have moved.
use Rattle.std.proofs.Common.{◌≡◌, ◌+◌, ◌++◌, map, reverse, vec_capacity, vec_len}
use Rattle.delta.specs.Parts.{inverses}
use Rattle.history.specs.Stacks.{below_last, last_of}
use Rattle.history.proofs.planned.shift.Given as goal

abbrev pub invariant-loop-moved : goal.invariant-loop-moved
invariant-loop-moved l = record {
  from : l.from.items ≡ below_last l._moved l.initial.from.items;
  to : l.to.items ≡ l.initial.to.items ++ map inverses (reverse (last_of l._moved l.initial.from.items));
  count : vec_len l.from + l._moved ≡ vec_len l.initial.from;
  total : vec_len l.from + vec_len l.to ≡ vec_len l.initial.from + vec_len l.initial.to;
  room : vec_capacity l.to ≡ vec_capacity l.initial.to;
}
