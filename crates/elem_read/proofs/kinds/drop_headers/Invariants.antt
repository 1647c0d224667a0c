-- The members that were passed stay, and of the others those that are no header members are to stay.
use Rattle.std.proofs.Common.{◌≡◌, ◌-◌, length}
use Rattle.elem.specs.Facts.{is_header}
use Rattle.elem_read.proofs.Others.{kept, passed}
use Rattle.elem_read.proofs.kinds.drop_headers.Given as goal

abbrev pub invariant-loop-at : goal.invariant-loop-at
invariant-loop-at l = passed (is_header l.kind) l.at l.members ≡ kept (is_header l.kind) l.initial.members

abbrev pub decreases-loop-at : goal.decreases-loop-at
decreases-loop-at l = length l.members - l.at
