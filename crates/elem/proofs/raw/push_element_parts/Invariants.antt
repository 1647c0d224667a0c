-- The members so far and those that are left are all members in the order of their names.
use Rattle.std.proofs.Common.{map, drop}
use Rattle.elem.proofs.Headers.{header_pairs}
use Rattle.elem.proofs.Merging.{Merging}
use Rattle.elem.specs.inner.Printing.{header_pair}
use Rattle.elem.proofs.raw.push_element_parts.Given as goal

abbrev pub invariant-loop-header : goal.invariant-loop-header
invariant-loop-header l =
    Merging 119 l.initial.out.items l.out.items (map (header_pair l.e) (drop l.header-index l.header-items))
    (drop l.at l.rest)
    (header_pairs l.e l.e.kind) l.e.rest
