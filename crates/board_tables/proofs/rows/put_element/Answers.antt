use Rattle.std.proofs.Common.{ap, sym, subst}
use Rattle.elem.specs.ElementValue.{ElementValue}
use Rattle.elem_store.specs.Places.{IsAt, IsGapFor}
use Rattle.board_tables.specs.Boards.{HasPut}
use Rattle.board_tables.proofs.RowLemmas.{HasPut-set, HasPut-insert}
use Rattle.board_tables.proofs.rows.put_element.Goals as goal

pub returns-in-Ok-clause-ok : goal.returns-in-Ok-clause-ok
returns-in-Ok-clause-ok c =
    HasPut-set _ c.args.e c.in-Ok.i c.requires
    (subst (λ id. IsAt c.args.elements.now.items id c.in-Ok.i) (ap (λ (e : ElementValue). e.id) c.e.view_is)
    c.in-Ok.ensures.found)

pub returns-in_ok-insert-in-Err-clause-ok : goal.returns-in_ok-insert-in-Err-clause-ok
returns-in_ok-insert-in-Err-clause-ok c =
    let gap = subst (λ id. IsGapFor c.args.elements.now.items id c.in-Err.i)
    (ap (λ (e : ElementValue). e.id) c.e.view_is) c.in-Err.ensures.absent in
    subst (HasPut c.args.elements.now.items c.args.e) (sym c.in_ok-insert-in-Err.ensures.items)
    (HasPut-insert c.args.elements.now.items c.args.e c.in-Err.i c.requires gap)
