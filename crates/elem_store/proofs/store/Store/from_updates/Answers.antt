use Rattle.std.proofs.Common.{◌≡◌, Vec, Global, ℕ, sym, ap, ◌∙◌, subst, subst₂}
use Rattle.std.specs.Option.{IfSome}
use Rattle.elem_store.specs.Places.{elements_at, AreInOrder}
use Rattle.elem_store.specs.Updates.{AreStored}
use Rattle.elem_store.proofs.SortedPlaces.{in_order-stored}
use Rattle.elem_store.proofs.store.Store.from_updates.Goals as goal

pub returns-in-Some : goal.returns-in-Some
returns-in-Some c =
    let given = c.in_ok-elements.elements.items in
    let same : given ≡ c.args.updates = c.in_ok-elements.ensures ∙ c.into_vec.ensures in
    let order : AreInOrder given c.in-Some.places.items =
    subst (λ found. IfSome found (λ (places : Vec ℕ Global). AreInOrder given places.items)) c.in-Some.is
    c.in_ok-places.ensures in
    subst₂ (λ updates places. AreStored updates (elements_at given places)) same (sym c.of-in-Some.ensures)
    (in_order-stored given c.in-Some.places.items order)
