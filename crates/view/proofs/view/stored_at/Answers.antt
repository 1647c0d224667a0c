use Rattle.std.proofs.Common.{◌≡◌, sym, ap, ◌∙◌}
use Rattle.std.proofs.lemmas.Slice.Eq.{bytes_eq-Decides}
use Rattle.elem.specs.ElementValue.{ElementValue}
use Rattle.elem_store.proofs.CallerLemmas.{element-at}
use Rattle.view.proofs.view.stored_at.Goals as goal

pub returns-then-eq : goal.returns-then-eq
returns-then-eq c =
    let same : c.in-Some-at.e.now.id ≡ c.args.id.now =
    ap (λ (e : ElementValue). e.id) (sym c.e.view_is)
    ∙ (bytes_eq-Decides c.e.inside.id c.args.id.now).0 (sym c.eq.ensures ∙ c.if-eq.true) in
    sym (element-at c.args.store.now.elements c.in-Some-at.ensures.ordered c.args.id.now _ c.in-Some-at.e.now
    (sym c.in-Some-at.ensures.element) same)
