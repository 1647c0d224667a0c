-- Ends of arrows that are bound, and texts that get a container: the listings of what is named
-- change with the names. This project's own, after Excalidraw's bindings and bound texts.
use Rattle.std.specs.Prelude.{ℕ, List, not, ◌&&◌, ◌||◌, Option, Some, None, filter, bytes_eq, if◌then◌else◌}
use Rattle.std.specs.Option.{option_and_then}
use Rattle.elem.specs.declared.parts.BoundRef.{BoundRef}
use Rattle.elem.specs.declared.parts.Binding.{Binding}
use Rattle.elem.specs.ElementValue.{ElementValue}
use Rattle.elem_store.specs.Updates.{element_of}
use Rattle.elem.specs.Listings.{same_listing_entry}
use Rattle.links.specs.Entries.{arrow_entry, text_entry}
use Rattle.links.specs.Names.{is_id, is_arrow, is_text, target_of}
use Rattle.links.specs.Tables.{with_listing_entry}
use Rattle.links.specs.Texts.{is_for_text}
use Rattle.board_commands.specs.declared.command.Side.{Side}
use Rattle.board_commands.specs.declared.command.Side.TheVariants.{Start, End}
use Rattle.effects.specs.Naming.{apart_from}

-- a listing without an entry
abbrev pub without_listing_entry : BoundRef → List BoundRef → List BoundRef
without_listing_entry entry entries = filter (λ other. not (same_listing_entry entry other)) entries

-- the element, which lists the entry if it is of this id
abbrev pub listed : Option (List ℕ) → BoundRef → ElementValue → ElementValue
listed id entry e =
    if is_id e.id id then record e { bound = with_listing_entry e.bound entry } else e

-- the element, which doesn't list the entry if it is of this id
abbrev pub unlisted : Option (List ℕ) → BoundRef → ElementValue → ElementValue
unlisted id entry e =
    if is_id e.id id then record e { bound = without_listing_entry entry e.bound } else e

-- the binding of an end, the other end, and the element with another binding there
abbrev pub end_at : Side → ElementValue → Option Binding
end_at Start e = e.start_binding
end_at End e = e.end_binding

abbrev pub opposite : Side → Side
opposite Start = End
opposite End = Start

abbrev pub with_end : Side → Option Binding → ElementValue → ElementValue
with_end Start binding e = record e { start_binding = binding }
with_end End binding e = record e { end_binding = binding }

-- what an end of an arrow alone names: nothing where the other end names it, too
abbrev pub named_by_end : Side → ElementValue → Option (List ℕ)
named_by_end side e = apart_from (target_of (end_at (opposite side) e)) (target_of (end_at side e))

-- what the end of the stored arrow alone names
abbrev pub old_target : List ElementValue → List ℕ → Side → Option (List ℕ)
old_target stored arrow side = option_and_then (named_by_end side) (element_of stored arrow)

-- the element, whose end gets a binding if it is the arrow
abbrev pub with_end_of : List ℕ → Side → Option Binding → ElementValue → ElementValue
with_end_of arrow side binding e =
    if bytes_eq arrow e.id && is_arrow e.kind then with_end side binding e else e

-- An end of the arrow gets a binding; the new target lists the arrow, and the old one doesn't.
abbrev pub bound_to : List ℕ → Side → Option Binding → Option (List ℕ) → ElementValue → ElementValue
bound_to arrow side binding old e =
    unlisted (apart_from (target_of binding) old) (arrow_entry arrow)
    (listed (target_of binding) (arrow_entry arrow) (with_end_of arrow side binding e))

-- what the stored text names as its container
abbrev pub old_container : List ElementValue → List ℕ → Option (List ℕ)
old_container stored text =
    option_and_then (λ (e : ElementValue). e.container) (element_of stored text)

-- the element, which names the container if it is the text, and else doesn't
abbrev pub with_container_of : List ℕ → List ℕ → ElementValue → ElementValue
with_container_of text container e =
    if bytes_eq text e.id && is_text e.kind then record e { container = Some container }
    else (if is_id container e.container then record e { container = None } else e)

-- a listing without entries of texts but for one, and with that one
abbrev pub without_other_texts : List ℕ → List BoundRef → List BoundRef
without_other_texts text entries =
    filter (λ (other : BoundRef). not (is_for_text other.role) || bytes_eq text other.id) entries

abbrev pub with_text_alone : List ℕ → List BoundRef → List BoundRef
with_text_alone text entries =
    with_listing_entry (without_other_texts text entries) (text_entry text)

-- the element, which lists the text and no other one if it is the container
abbrev pub with_text_of : List ℕ → List ℕ → ElementValue → ElementValue
with_text_of text container e =
    if bytes_eq container e.id then record e { bound = with_text_alone text e.bound } else e

-- The text gets a container, which has no other text; the old container doesn't list the text.
abbrev pub labelled : List ℕ → List ℕ → Option (List ℕ) → ElementValue → ElementValue
labelled text container old e =
    unlisted (apart_from (Some container) old) (text_entry text)
    (with_text_of text container (with_container_of text container e))

-- the element, which names no container if it is the text
abbrev pub without_container_of : List ℕ → ElementValue → ElementValue
without_container_of text e = if bytes_eq text e.id then record e { container = None } else e

-- The text has no container, and the old one doesn't list it.
abbrev pub unlabelled : List ℕ → Option (List ℕ) → ElementValue → ElementValue
unlabelled text old e =
    unlisted old (text_entry text) (without_container_of text e)
