-- Each new element is noted in its turn.
use Rattle.std.proofs.Common.{◌≡◌, ◌<◌, ◌++◌, [], ◌∷◌, length, take, get_or, slice_get, Some, option_copied, sym, ap, ◌∙◌, subst, arith}
use Rattle.std.proofs.lemmas.Option.{slice_get-get_or}
use Rattle.elem.specs.ElementValue.{ElementValue}
use Rattle.delta.specs.Pairs.{EntryStandsFor, pair_with}
use Rattle.elem_store.specs.Updates.{element_of}
use Rattle.snapshot.specs.Pending.{pairs_since}
use Rattle.snapshot.proofs.CapturedLaws.{found-id}
use Rattle.snapshot.proofs.PendingLaws.{pairs-more, pairs-less}
use Rattle.snapshot.proofs.pending.parts_to.Goals as goal

pub note-requires : goal.note-requires
note-requires c = found-id c.args.elements.now.items c.get-e.result.now.id (option_copied c.find.result) (c.find.ensures
    ∙ ap (element_of c.args.elements.now.items) (ap (λ (e : ElementValue). e.id) c.e.view_is))

pub loop-shared-preserved : goal.loop-shared-preserved
loop-shared-preserved c =
    let elements = c.args.elements.now.items in
    let news = c.args.news.now.items in
    let i = c.loop-shared.shared-index in
    let e = c.get-e.result.now in
    let within : i < length news = omega (arith, c.loop-shared-test.true) in
    let at : slice_get news i ≡ Some e = slice_get-get_or news i c.shared-item.result within
    ∙ ap Some (sym (c.get-e.ensures ∙ c.shared-item.is
    ∙ ap (λ x. get_or x i c.shared-item.result) c.deref-shared-items.ensures.value)) in
    let old : option_copied c.find.result ≡ element_of elements e.id =
    c.find.ensures ∙ ap (element_of elements) (ap (λ (e : ElementValue). e.id) c.e.view_is) in
    subst (EntryStandsFor c.note.new.parts.items) (ap (λ o. pairs_since elements (take i news) ++ pair_with o e ∷ [])
    old ∙ pairs-more elements news i e at)
    (c.in_ok-note.ensures _ c.loop-shared.invariant (pairs-less elements news i e at c.requires.news))
