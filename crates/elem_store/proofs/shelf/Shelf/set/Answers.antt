use Rattle.std.proofs.Common.{◌≡◌, set, sym, ap, ap₂, ◌∙◌}
use Rattle.std.proofs.lemmas.List.{map-set}
use Rattle.board_base.specs.Fronts.{front_of}
use Rattle.elem_store.specs.inner.Fronts.{front_at}
use Rattle.elem_store.proofs.shelf.Shelf.set.Goals as goal

pub invariant_of-self : goal.invariant_of-self
invariant_of-self c =
    let front : c.front_of.result ≡ front_at c.args.e =
    c.front_of.ensures ∙ ap front_of c.as_bytes.ensures.value ∙ ap front_at c.e.view_is in
    ap₂ (λ fronts f. set fronts c.args.place f) c.self.invariant front
    ∙ sym (map-set front_at c.self.inside.elements.items c.args.place c.args.e)
