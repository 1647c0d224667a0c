-- Each element of the list is carried in its turn.
use Rattle.std.proofs.Common.{◌≡◌, suc, ◌+◌, ◌<◌, ◌∷◌, length, drop, sym, ap, ◌∙◌, add-one, arith}
use Rattle.std.proofs.Math.Seq.{drop-cons}
use Rattle.elem.specs.ElementValue.{ElementValue}
use Rattle.elem_store.specs.Updates.{takings}
use Rattle.undo_model.specs.Carrying.{with_all_put, carried_all}
use Rattle.snapshot.proofs.PlanLaws.{carry-more}
use Rattle.snapshot.proofs.carrying.carrying.Goals as goal

pub loop-e-preserved : goal.loop-e-preserved
loop-e-preserved c =
    let list = c.args.list.now in
    let captured = c.args.captured.now.items in
    let stored = c.args.store.now.elements in
    let newer = c.loop-e.newer.items in
    let step = c.loop-e.step.items in
    let i = c.loop-e.e-index in
    let e = c.e-item.result in
    let within : i < length list = omega (arith, c.loop-e-test.true) in
    let first : drop i list ≡ e ∷ drop (i + 1) list =
    rw add-one (drop-cons list i e within ∙ ap (λ (x : ElementValue). x ∷ drop (suc i) list) (sym c.e-item.is)) in
    let more = carry-more stored captured newer step c.carry_one.new.newer.items c.carry_one.new.step.items e
    (drop (i + 1) list)
    c.carry_one.ensures.stored c.loop-e.invariant.newer c.in_ok-carry_one.ensures.newer
    c.in_ok-carry_one.ensures.step in
    record {
      carried = more.0
          ∙ ap (λ rest. carried_all (takings (with_all_put newer stored) rest) (with_all_put step captured)) (sym first)
          ∙ c.loop-e.invariant.carried;
      newer = more.1;
      step = c.in_ok-carry_one.ensures.ordered;
    }
