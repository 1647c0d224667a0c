use Rattle.std.proofs.Common.{◌<◌, ℕ, List, [], ◌∷◌, ◌++◌, length, ap, ◌∙◌, arith}
use Rattle.elem.specs.ElementValue.{ElementValue}
use Rattle.kept_view.proofs.UnsettledLaws.{push-part}
use Rattle.kept_view.proofs.unsettled.add_ids.Goals as goal

pub loop-e-preserved : goal.loop-e-preserved
loop-e-preserved c =
    let i = c.loop-e.e-index in
    let elements = c.args.elements.now in
    let e = c.e-item.result in
    let within : i < length elements = omega arith in
    let get_id : ElementValue → List ℕ = λ x. x.id in
    c.in_ok-push.ensures.items ∙ ap (λ x. c.loop-e.ids.items ++ x ∷ []) (c.in_ok-try_clone.ensures ∙ c.id.ensures)
    ∙ push-part get_id c.args.ids.now.items c.loop-e.ids.items elements i e within c.e-item.is c.loop-e.invariant
