-- Each is copied and put in its turn.
use Rattle.std.proofs.Common.{◌<◌, ◌++◌, [], ◌∷◌, length, take, sym, ap, ◌∙◌, arith}
use Rattle.std.proofs.lemmas.List.{take_more}
use Rattle.frac_keys.specs.Rising.{are_rising}
use Rattle.elem.specs.ElementValue.{ElementValue}
use Rattle.elem_store.specs.Updates.{ids_of}
use Rattle.undo_model.specs.Carrying.{with_put, with_all_put}
use Rattle.snapshot.proofs.PutLaws.{all-rise, all-append}
use Rattle.snapshot.proofs.captured.put_copies.Goals as goal

pub put-requires : goal.put-requires
put-requires c =
    ap (λ es. are_rising (ids_of es)) c.loop-e.invariant
    ∙ all-rise (take c.loop-e.e-index c.args.news.now) c.args.elements.now.items c.requires

pub loop-e-preserved : goal.loop-e-preserved
loop-e-preserved c =
    let i = c.loop-e.e-index in
    let news = c.args.news.now in
    let e = c.e-item.result in
    let within : i < length news = omega arith in
    c.in_ok-put.ensures.ok ∙ ap (λ (copy : ElementValue). with_put copy c.loop-e.elements.items) c.in_ok-copy.ensures
    ∙ ap (with_put e) c.loop-e.invariant
    ∙ sym (ap (λ es. with_all_put es c.args.elements.now.items) (take_more news i e within
    ∙ ap (λ x. take i news ++ x ∷ []) (sym c.e-item.is))
    ∙ all-append (take i news) (e ∷ []) c.args.elements.now.items)
