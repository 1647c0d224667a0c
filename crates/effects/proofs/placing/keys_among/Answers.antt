use Rattle.std.proofs.Common.{◌<◌, ◌++◌, ◌∷◌, [], length, take, sym, ap, ◌∙◌, subst, arith}
use Rattle.std.proofs.lemmas.List.{nil_from_length, take_more}
use Rattle.effects.specs.inner.Prepared.{HasKeys, elements_among}
use Rattle.effects.proofs.PlacingLaws.{keys-none}
use Rattle.effects.proofs.placing.keys_among.Goals as goal

pub returns-then-is_empty : goal.returns-then-is_empty
returns-then-is_empty c =
    keys-none c.new-keys.result c.args.ids.now c.args.elements.now c.new-keys.ensures.empty
    (nil_from_length c.args.ids.now.keys (c.is_empty.ensures.0 c.if-is_empty.true))

pub loop-e-preserved : goal.loop-e-preserved
loop-e-preserved c =
    let i = c.loop-e.e-index in
    let all = c.args.elements.now in
    let e = c.e-item.result in
    let within : i < length all = omega arith in
    subst (λ es. HasKeys c.note_among.new.keys (elements_among c.args.ids.now es))
    (sym (take_more all i e within ∙ ap (λ x. take i all ++ x ∷ []) (sym c.e-item.is)))
    (rw c.get.ensures at c.in_ok-note_among.ensures (take i all) c.loop-e.invariant)
