-- The live elements before and after an update was taken differ at its id alone.
use Rattle.std.proofs.Common.{◌≡◌, ◌||◌, ◌&&◌, Bool, true, false, List, [], ◌∷◌, Some, None, if◌then◌else◌, bytes_eq, refl, sym, ap, subst, ◌∙◌}
use Rattle.std.specs.List.{list_any}
use Rattle.frac_keys.specs.Rising.{are_rising}
use Rattle.elem.specs.ElementValue.{ElementValue}
use Rattle.elem.specs.Order.{has_id}
use Rattle.elem_store.specs.Updates.{element_of, ids_of, is_taken, HasTaken}
use Rattle.kept_view.specs.Changes.{AreSameButAt}
use Rattle.kept_view.proofs.CallerLemmas.{if_live, element-live}
use Rattle.view.specs.Shown.{live_elements}
use Rattle.calls.proofs.keep.Board.with.Goals as goal

not-one : (b : Bool) → b || false ≡ false → b ≡ false
not-one true is = is
not-one false is = refl

same-but-at : (old new : List ElementValue) (e : ElementValue) → are_rising (ids_of old) ≡ true → HasTaken old e new
    → AreSameButAt (e.id ∷ []) (live_elements old) (live_elements new)
same-but-at old new e rising has id other =
    let at_other = ap (λ b. if b && is_taken old e then Some e else element_of old id) (not-one (has_id id e) other) in
    element-live None old id rising ∙ (ap if_live (sym (has.each id ∙ at_other))
    ∙ sym (element-live None new id has.ordered))

pub update-requires : goal.update-requires
update-requires c id other =
    let named : c.from_ref.result.now ≡ c.args.e.id ∷ [] = c.from_ref.ensures.value
    ∙ (ap (λ i. i ∷ []) c.in_ok-id.ensures ∙ ap (λ (e : ElementValue). e.id ∷ []) c.e.view_is) in
    ap (λ es. element_of es id) c.self.invariant.0
    ∙ same-but-at c.self.inside.store.elements c.take.new.self.elements c.args.e c.self.invariant.1
    c.in-Ok.ensures.after id
    (subst (λ ids. list_any (bytes_eq id) ids ≡ false) named other)
