-- The first changes have been applied, and what they make is an element.
use Rattle.std.proofs.Common.{take}
use Rattle.elem.specs.Facts.{IsElement}
use Rattle.delta.specs.Applied.{Changes}
use Rattle.delta.proofs.applying.apply_all.Given as goal

abbrev pub invariant-loop-change : goal.invariant-loop-change
invariant-loop-change l = record {
  changes : Changes (take l.change-index l.change-items) l.initial.e l.e;
  element : IsElement l.e;
}
