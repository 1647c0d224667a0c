use Rattle.std.proofs.Common.{◌≡◌, ◌-◌, ◌≤◌}
use Rattle.std.specs.Vec.{vec_len, vec_capacity}
use Rattle.links.specs.Rows.{rows_at}
use Rattle.links.proofs.RowSweep.{AreSwept}
use Rattle.links.proofs.row_places.take_out_namer.Given as goal

abbrev pub invariant-loop-i : goal.invariant-loop-i
invariant-loop-i l =
    AreSwept l.id (rows_at l.initial.named.items l.initial.namers.items) l.named.items l.namers.items l.i
    × (vec_len l.named ≤ vec_len l.initial.named)
    × (vec_capacity l.named ≡ vec_capacity l.initial.named)
    × (vec_capacity l.namers ≡ vec_capacity l.initial.namers)

abbrev pub decreases-loop-i : goal.decreases-loop-i
decreases-loop-i l = vec_len l.namers - l.i
