-- Which elements name no container after a label.
use Rattle.std.proofs.Common.{◌≡◌, ◌≢◌, ℕ, Bool, true, false, ◌&&◌, List, Option, Some, None, bytes_eq, if◌then◌else◌, refl, ap, ◌∙◌}
use Rattle.std.proofs.lemmas.Bool.{cond-true, cond-false, and_left}
use Rattle.json_text.proofs.CallerLemmas.{bytes_eq-apart}
use Rattle.elem.specs.declared.parts.BoundRef.{BoundRef}
use Rattle.elem.specs.ElementValue.{ElementValue}
use Rattle.links.specs.Entries.{text_entry}
use Rattle.links.specs.Names.{is_id, is_text}
use Rattle.links.proofs.CallerLemmas.{is_id-from}
use Rattle.effects.specs.Linking.{labelled, with_container_of, with_text_of, with_text_alone, without_listing_entry}
use Rattle.effects.specs.Naming.{apart_from}

either-container : (b : Bool) (e : ElementValue) (bound : List BoundRef)
    → (if b then record e { bound = bound } else e).container ≡ e.container
either-container true e bound = refl
either-container false e bound = refl

-- an element that names the container and isn't the text names none
pub labelled-freed : (text container : List ℕ) (old : Option (List ℕ)) (e : ElementValue) → text ≢ e.id
    → e.container ≡ Some container → (labelled text container old e).container ≡ None
labelled-freed text container old e other names =
    let one = with_container_of text container e in
    let two = with_text_of text container one in
    let freed : ElementValue = record e { container = None } in
    either-container (is_id two.id (apart_from (Some container) old)) two
    (without_listing_entry (text_entry text) two.bound)
    ∙ either-container (bytes_eq container one.id) one (with_text_alone text one.bound)
    ∙ ap (λ (d : ElementValue). d.container)
    (cond-false (bytes_eq text e.id && is_text e.kind) (record e { container = Some container })
    (if is_id container e.container then freed else e)
    (and_left (bytes_eq text e.id) (is_text e.kind) (bytes_eq-apart text e.id other))
    ∙ cond-true (is_id container e.container) freed e (is_id-from container e.container names))
