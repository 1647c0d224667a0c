-- Texts and their containers: a container has one text at most, and a text keeps its container
-- exactly if it is that container's text. This project's own, after Excalidraw's bound texts.
use Rattle.std.specs.Prelude.{ℕ, List, Bool, true, false, ◌&&◌, Option, None, find, map, if◌then◌else◌}
use Rattle.std.specs.List.{list_any}
use Rattle.std.specs.Option.{option_or, option_map}
use Rattle.elem.specs.declared.kind.Role.{Role}
use Rattle.elem.specs.declared.kind.Role.TheVariants.{Arrow, Text}
use Rattle.elem.specs.declared.parts.BoundRef.{BoundRef}
use Rattle.elem.specs.ElementValue.{ElementValue}
use Rattle.elem.specs.Order.{has_id}
use Rattle.links.specs.Names.{id_of, is_id, can_hold_text, names_container}

abbrev pub is_for_text : Role → Bool
is_for_text Text = true
is_for_text Arrow = false

-- whether an entry of a container's listing is for a text of the list that names the container
abbrev pub is_text_entry : List ElementValue → ElementValue → BoundRef → Bool
is_text_entry list container entry =
    is_for_text entry.role && list_any (λ text. has_id entry.id text
    && names_container container.id text) list

-- the first text in a container's own listing that names it, and the first text of the list that
-- names it
abbrev pub listed_text : List ElementValue → ElementValue → Option (List ℕ)
listed_text list container = option_map (λ (entry : BoundRef). entry.id)
    (find (is_text_entry list container) container.bound)

abbrev pub first_text : List ElementValue → ElementValue → Option (List ℕ)
first_text list container = option_map id_of (find (names_container container.id) list)

-- The id of the text of this container: of the first text in its own listing that names it, else of
-- the first text of the list that names it.
unfoldable pub text_of : List ElementValue → ElementValue → Option (List ℕ)
text_of list container =
    if can_hold_text container.kind then option_or (listed_text list container)
    (first_text list container) else None

-- whether a text of this id is that container's text
abbrev pub is_text_of : List ElementValue → List ℕ → ElementValue → Bool
is_text_of list id container = is_id id (text_of list container)

-- whether a text keeps its container: it is the text of an element of the list that it names
unfoldable pub keeps_container : List ElementValue → ElementValue → Bool
keeps_container list text =
    list_any (λ container. is_text_of list text.id container && names_container container.id text)
    list

-- the settled element of texts: as it is, but without a container that it doesn't keep
abbrev pub with_settled_container : List ElementValue → ElementValue → ElementValue
with_settled_container list e =
    record e { container = if keeps_container list e then e.container else None }

-- each element with its container settled
abbrev pub settled_texts : List ElementValue → List ElementValue
settled_texts list = map (with_settled_container list) list
