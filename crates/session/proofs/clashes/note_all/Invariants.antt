-- The first elements are noted, and those of them that clash are counted.
use Rattle.std.proofs.Common.{◌≡◌, ◌≤◌, ◌++◌, List, take}
use Rattle.elem.specs.ElementValue.{ElementValue}
use Rattle.clash.specs.Firsts.{firsts_of}
use Rattle.session.specs.Clashes.{HaveClashes}
use Rattle.session.proofs.clashes.note_all.Given as goal

abbrev pub invariant-loop-e : goal.invariant-loop-e
invariant-loop-e l = record {
  counted : (before : List ElementValue) → l.initial.clash ≡ firsts_of before
      → HaveClashes before (take l.e-index l.elements) l.count;
  noted : (before : List ElementValue) → l.initial.clash ≡ firsts_of before
      → l.clash ≡ firsts_of (before ++ take l.e-index l.elements);
  within : l.count ≤ l.e-index;
}
