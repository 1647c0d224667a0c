use Rattle.std.proofs.Common.{◌≡◌, ◌∙◌, ℕ, ◌<◌, Bool, List, bytes_eq, refl, false, true, not, get_or, length, ap, arith}
use Rattle.kept_view.proofs.IdLaws.{others-add, others-skip}
use Rattle.kept_view.proofs.ids.Ids.without.Goals as goal
use Rattle.kept_view.proofs.ids.Ids.without.Goals.{then-ne+in_ok-add, else-ne}

off-from : (b : Bool) → true ≡ not b → b ≡ false
off-from false is = refl
off-from true is = cc

on-from : (b : Bool) → false ≡ not b → b ≡ true
on-from true is = refl
on-from false is = cc

pub loop-other-preserved : goal.loop-other-preserved
loop-other-preserved c =
    let ids = c.args.self.now.list.items in
    let within : c.loop-other.other-index < length ids =
    omega (arith, c.loop-other-test.true, ap length c.deref-other-items.ensures.value) in
    let there : c.other-item.result ≡ get_or ids c.loop-other.other-index c.other-item.result =
    c.other-item.is ∙ ap (λ (xs : List (List ℕ)). get_or xs c.loop-other.other-index c.other-item.result)
    c.deref-other-items.ensures.value in
    elim c.if-ne.branch [
      | then-ne+in_ok-add w ↦
          let off : bytes_eq c.args.id.now c.other-item.result ≡ false = off-from _ w.if-ne.ensures in
          rw w.ids-is
          (others-add c.args.id.now ids c.loop-other.other-index c.other-item.result within there
          c.loop-other.ids.list.items c.loop-other.invariant off w.add.new.self.list.items w.in_ok-add.ensures)
      | else-ne w ↦
          let own : bytes_eq c.args.id.now c.other-item.result ≡ true = on-from _ w.if-ne.ensures in
          rw w.ids-is
          (others-skip c.args.id.now ids c.loop-other.other-index c.other-item.result within there
          c.loop-other.ids.list.items c.loop-other.invariant own)
    ]
