-- A search ends at the element of the id, or where there is none.
use Rattle.std.proofs.Common.{◌<◌, length, Some, sym, ap, ◌∙◌}
use Rattle.std.proofs.lemmas.Option.{slice_get-get_or, slice_get_within}
use Rattle.elem_store.proofs.CallerLemmas.{element-gap, found, element-found}
use Rattle.snapshot.proofs.captured.find.Goals as goal

pub returns-in-Ok : goal.returns-in-Ok
returns-in-Ok c =
    let elements = c.args.elements.now.items in
    let x = found _ c.args.id.now c.in-Ok.ensures.found in
    let within : c.in-Ok.i < length elements = slice_get_within elements c.in-Ok.i x.0 x.1 in
    ap Some (c.get.ensures ∙ c.index.ensures) ∙ sym (slice_get-get_or elements c.in-Ok.i c.index.result.now within)
    ∙ element-found elements c.args.id.now c.in-Ok.i c.requires c.in-Ok.ensures.found

pub returns-in-Err : goal.returns-in-Err
returns-in-Err c = sym (element-gap c.args.elements.now.items c.args.id.now c.in-Err.field-0 c.in-Err.ensures.absent)
