use Rattle.std.proofs.Common.{◌<◌, ◌++◌, ◌∷◌, [], length, get_or, take, sym, ap, ◌∙◌, subst, arith}
use Rattle.std.proofs.lemmas.List.{take_more}
use Rattle.effects.specs.inner.Prepared.{HasIds}
use Rattle.effects.proofs.PreparingLaws.{HasIds-more}
use Rattle.effects.proofs.preparing.set_of.Goals as goal

pub loop-id-preserved : goal.loop-id-preserved
loop-id-preserved c =
    let i = c.loop-id.id-index in
    let all = c.args.ids.now in
    let id = c.id-item.result in
    let within : i < length all = omega (arith, c.loop-id-test.true, ap length c.as_slice-id-items.ensures) in
    let is = c.id-item.is ∙ ap (λ ids. get_or ids i id) c.as_slice-id-items.ensures in
    subst (HasIds c.insert.new.self) (sym (take_more all i id within ∙ ap (λ x. take i all ++ x ∷ []) (sym is)))
    (HasIds-more c.loop-id.set c.insert.new.self (take i all) id c.in_ok-try_clone.field-0 c.loop-id.invariant
    c.in_ok-try_clone.ensures c.in_ok-insert.ensures.updates)
