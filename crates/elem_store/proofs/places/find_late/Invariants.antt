use Rattle.std.proofs.Common.{◌+◌, ◌-◌, ◌≤◌, vec_len}
use Rattle.elem_store.specs.inner.Indexed.{woven, AreAside}
use Rattle.elem_store.specs.inner.Places.{IsBetween}
use Rattle.elem_store.proofs.places.find_late.Given as goal

-- the id is between the bounds, and so are none of the late places but those that are left
abbrev pub invariant-loop-first : goal.invariant-loop-first
invariant-loop-first l = record {
  between : IsBetween l.elements.items (woven l.settled.items l.late.items) l.id (l.from + l.first) (l.to + l.last);
  aside : AreAside l.late.items l.first l.last (l.from + l.first) (l.to + l.last);
  within : l.to ≤ vec_len l.settled;
}

abbrev pub decreases-loop-first : goal.decreases-loop-first
decreases-loop-first l = l.last - l.first
