use Rattle.std.proofs.Common.{◌≡◌, ℕ, List, take, drop, nat_cmp}
use Rattle.std.specs.BTreeSet.{contains}
use Rattle.std.specs.Cmp.Lexicographic.{slice_cmp}
use Rattle.copies.specs.Copies.{is_among}
use Rattle.clips.specs.Placed.{elements_in, first_repeat, repeat_after}
use Rattle.clips.proofs.repeats.first_repeat.Given as goal

abbrev pub invariant-loop-p : goal.invariant-loop-p
invariant-loop-p l = record {
  same : repeat_after (elements_in (take l.p-index l.placed)) (drop l.p-index l.placed) ≡ first_repeat l.placed;
  ids : (id : List ℕ) → contains (slice_cmp nat_cmp) l.seen id ≡ is_among (elements_in (take l.p-index l.placed)) id;
}
