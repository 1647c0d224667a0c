-- Each turn puts the item that is wanted next.
use Rattle.std.proofs.Common.{arith}
use Rattle.std.proofs.lemmas.List.{set_past}
use Rattle.elem_store.proofs.Wanted.{AreArranged-next, AreArranged-all}
use Rattle.elem_store.proofs.arranging.arranged.Goals as goal
use Rattle.elem_store.proofs.arranging.arranged.Goals.{then-other-len, else-other-len}

pub loop-i-preserved : goal.loop-i-preserved
loop-i-preserved g c =
    let next = AreArranged-next _ _ c.loop-i.items.items c.swap.new.self.items c.loop-i.places.items _ c.loop-i.i _ _
    c.loop-i.invariant (omega (arith, c.loop-i.invariant.number)) c.index-place.ensures c.index-other.ensures
    c.swap.ensures.by_index (omega arith) in
    elim c.if-other-len.branch [
      | then-other-len w ↦ rw w.places-is next
      | else-other-len w ↦ rw (
        w.places-is,
        ← set_past c.loop-i.places.items c.index-other.result.now
            c.index-place.result.now (omega arith),
      ) next
    ]

pub returns : goal.returns
returns g c =
    rw c.truncate.ensures.items (AreArranged-all _ _ _ _ _ c.loop-i.i _ c.loop-i.invariant c.requires.within
    (omega arith) (omega arith))
