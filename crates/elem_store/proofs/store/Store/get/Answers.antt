-- A search ends at the element of the id, or where there is none.
use Rattle.std.proofs.Common.{sym, ap, ◌∙◌}
use Rattle.frac_keys.specs.Rising.{are_rising}
use Rattle.elem_store.specs.Stock.{Held}
use Rattle.elem_store.specs.Updates.{element_of, ids_of}
use Rattle.elem_store.proofs.Edits.{element-gap}
use Rattle.elem_store.proofs.Placed.{element-found}
use Rattle.elem_store.proofs.store.Store.get.Goals as goal

pub returns-in-Ok-clause-element : goal.returns-in-Ok-clause-element
returns-in-Ok-clause-element c =
    c.at.ensures.element
    ∙ rw (← c.self.view_is) (element-found _ c.args.id.now c.in-Ok.i c.self.invariant.ordered c.in-Ok.ensures.found)

pub returns-in-Err-clause-element : goal.returns-in-Err-clause-element
returns-in-Err-clause-element c =
    sym (element-gap _ c.args.id.now c.in-Err.field-0 c.in-Err.ensures.absent)
    ∙ ap (λ (s : Held). element_of s.elements c.args.id.now) c.self.view_is

pub returns-in-Err-clause-ordered : goal.returns-in-Err-clause-ordered
returns-in-Err-clause-ordered c =
    ap (λ (s : Held). are_rising (ids_of s.elements)) (sym c.self.view_is) ∙ c.self.invariant.ordered
