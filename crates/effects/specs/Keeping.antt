-- What of the live elements the commands that link them leave as it was. This project's own.
use Rattle.std.specs.Prelude.{◌≡◌, ◌≢◌, ℕ, List, [], not, Option, Some, None, filter}
use Rattle.elem.specs.declared.parts.BoundRef.{BoundRef}
use Rattle.elem.specs.ElementValue.{ElementValue}
use Rattle.elem.specs.Order.{unstamped}
use Rattle.links.specs.Entries.{arrow_entry, text_entry}
use Rattle.links.specs.Texts.{is_for_text}
use Rattle.board_commands.specs.declared.command.Side.{Side}
use Rattle.effects.specs.Linking.{without_listing_entry, end_at, opposite, old_container, old_target}

-- the element without its stamp, its container and its listing
abbrev pub unlabelled_rest : ElementValue → ElementValue
unlabelled_rest e = record (unstamped e) { bound = []; container = None }

-- the element without its stamp, its bindings and its listing
abbrev pub unbound_rest : ElementValue → ElementValue
unbound_rest e = record (unstamped e) { bound = []; start_binding = None; end_binding = None }

-- the entries of a listing that are for arrows
abbrev pub arrow_entries : List BoundRef → List BoundRef
arrow_entries entries = filter (λ (entry : BoundRef). not (is_for_text entry.role)) entries

-- What a label leaves of a live element: all but containers and listings; the container of all but
-- the text and of those that named the new container; the listing of all but the new container and
-- of what the text named before; each entry of an arrow; and in all but the new container each
-- entry but the text's.
pub record LabelKeeps (stored : List ElementValue) (container text : List ℕ)
    (old e : ElementValue) : Type 0 where
  pub rest : unlabelled_rest e ≡ unlabelled_rest old
  pub named : old.id ≢ text → old.container ≢ Some container → e.container ≡ old.container
  pub listing : old.id ≢ container → old_container stored text ≢ Some old.id → e.bound ≡ old.bound
  pub arrows : arrow_entries e.bound ≡ arrow_entries old.bound
  pub others : old.id ≢ container
      → without_listing_entry (text_entry text) e.bound ≡ without_listing_entry
      (text_entry text) old.bound

-- What an unlabel leaves of a live element: all but containers and listings; the container of all
-- but the text; the listing of all but what the text named; and each entry but the text's.
pub record UnlabelKeeps (stored : List ElementValue) (text : List ℕ)
    (old e : ElementValue) : Type 0 where
  pub rest : unlabelled_rest e ≡ unlabelled_rest old
  pub named : old.id ≢ text → e.container ≡ old.container
  pub listing : old_container stored text ≢ Some old.id → e.bound ≡ old.bound
  pub others : without_listing_entry (text_entry text) e.bound ≡ without_listing_entry
      (text_entry text) old.bound

-- What a new binding of an end of an arrow, or its loss, leaves of a live element: all but ends and
-- listings; each end but that one; the listing of all but the new target and of what the end alone
-- named; and each entry but the arrow's.
pub record BindKeeps (stored : List ElementValue) (arrow : List ℕ) (side : Side)
    (target : Option (List ℕ)) (old e : ElementValue) : Type 0 where
  pub rest : unbound_rest e ≡ unbound_rest old
  pub ends : end_at (opposite side) e ≡ end_at (opposite side) old
  pub unnamed : old.id ≢ arrow → end_at side e ≡ end_at side old
  pub listing : target ≢ Some old.id → old_target stored arrow side ≢ Some old.id
      → e.bound ≡ old.bound
  pub others : without_listing_entry (arrow_entry arrow) e.bound ≡ without_listing_entry
      (arrow_entry arrow) old.bound
