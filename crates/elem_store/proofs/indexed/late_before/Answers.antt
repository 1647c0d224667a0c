-- The late place at the middle tells on which side the index is.
use Rattle.std.proofs.Common.{◌≡◌, arith}
use Rattle.elem_store.proofs.Woven.{before-index, before-middle, after-middle}
use Rattle.elem_store.proofs.indexed.late_before.Goals as goal

pub loop-low-preserved-then-index-saturating_sub : goal.loop-low-preserved-then-index-saturating_sub
loop-low-preserved-then-index-saturating_sub c = record {
  order = omega arith;
  in_range = c.loop-low.invariant.in_range;
  before = before-middle c.args.late.now.items c.args.i _ c.index.result.now c.requires
      (omega (arith, c.loop-low.invariant.in_range)) c.index.ensures (omega arith);
  after = c.loop-low.invariant.after;
}

pub loop-low-preserved : goal.loop-low-preserved
loop-low-preserved c = record {
  order = omega arith;
  in_range = omega (arith, c.loop-low.invariant.in_range);
  before = c.loop-low.invariant.before;
  after = after-middle c.args.late.now.items c.args.i _ c.index.result.now c.requires
      (omega (arith, c.loop-low.invariant.in_range)) c.index.ensures (omega arith);
}

pub returns : goal.returns
returns c =
    let at = c.loop-low.invariant in
    let same : c.loop-low.low ≡ c.loop-low.high = omega arith in
    record {
      in_range = omega arith;
      bounded = before-index c.args.late.now.items c.args.i c.loop-low.low (omega arith) at.before;
      before = at.before;
      after = λ k d m n. at.after k d (omega arith) n;
    }
