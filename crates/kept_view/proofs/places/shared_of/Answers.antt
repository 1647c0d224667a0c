use Rattle.std.proofs.Common.{◌≡◌, sym}
use Rattle.elem_store.proofs.CallerLemmas.{element-at, element-gap}
use Rattle.kept_view.proofs.Redrawn.{at_place}
use Rattle.kept_view.proofs.places.shared_of.Goals as goal

pub returns-in-Ok : goal.returns-in-Ok
returns-in-Ok c =
    let found = at_place (λ e. e.id ≡ c.args.id.now) c.args.elements.now.items c.in-Ok.i c.index.result.now
    c.in-Ok.ensures.found c.index.ensures in
    sym (element-at c.args.elements.now.items c.requires c.args.id.now c.in-Ok.i c.index.result.now found.0 found.1)

pub returns-in-Err : goal.returns-in-Err
returns-in-Err c =
    sym (element-gap c.args.elements.now.items c.args.id.now c.in-Err.field-0 (c.in-Err.ensures.absent c.requires))
