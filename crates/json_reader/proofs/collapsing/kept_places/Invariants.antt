use Rattle.std.specs.Cmp.Lexicographic.{slice_cmp}
use Rattle.std.specs.Ordering.{nat_cmp}
use Rattle.std.specs.BTreeMap.{get_by}
use Rattle.json_reader.proofs.Placing.{AreKept}
use Rattle.json_reader.proofs.collapsing.kept_places.Given as goal

abbrev pub invariant-loop-place : goal.invariant-loop-place
invariant-loop-place l =
    AreKept l.bytes l.places l.kept.items l.place-index (λ q. get_by (λ k. slice_cmp nat_cmp q k.now) l.known) l.repeats
