-- The last late place goes before the settled ones that stand behind its gap.
use Rattle.std.proofs.Common.{◌≡◌, ◌+◌, ◌++◌, ◌∷◌, [], length, ap, ◌∙◌, subst, arith, length-set, length-append}
use Rattle.elem_store.specs.inner.Indexed.{AreGaps}
use Rattle.elem_store.proofs.Woven.{gaps-last, gap-last, settled-more}
use Rattle.elem_store.proofs.indexed.settle.Goals as goal

pub loop-last-preserved : goal.loop-last-preserved
loop-last-preserved c =
    let l = c.in-Some.last in
    let late = c.pop.new.self in
    let parts : c.loop-last.late.items ≡ late.items ++ l ∷ [] = c.in-Some.ensures.items in
    let gaps = subst (AreGaps c.loop-last.end) parts c.loop-last.invariant.gaps in
    let low = gap-last _ late.items l gaps in
    let count = ap length parts ∙ length-append late.items (l ∷ []) in
    record {
      gaps = gaps-last _ late.items l gaps;
      room = omega (
        arith,
        length-set c.move_up.new.settled.items (l.gap + c.len-in-Some-2.result) l.place,
        c.move_up.ensures.count,
        c.move_up.new.settled.ok.0,
        c.loop-last.settled.ok.0,
        c.loop-last.invariant.room,
      );
      places =
          settled-more c.loop-last.settled.items c.move_up.new.settled.items c.loop-last.late.items late.items l
          c.loop-last.end c.len-in-Some.result c.len-in-Some-2.result
          parts (c.len-in-Some.ensures ∙ late.ok.0) (c.len-in-Some-2.ensures ∙ late.ok.0) c.loop-last.invariant.gaps
          c.loop-last.invariant.room c.move_up.ensures.moved
          ∙ c.loop-last.invariant.places;
      count = c.move_up.ensures.count ∙ c.loop-last.invariant.count;
      kept = omega (arith, c.loop-last.invariant.kept, c.move_up.ensures.kept);
    }
