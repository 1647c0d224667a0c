-- Bound arrows and the listings of what they are bound to. This project's own, after Excalidraw's
-- bindings.
use Rattle.std.specs.Prelude.{ℕ, List, [], ◌∷◌, ◌++◌, Bool, false, ◌&&◌, Option, Some, None, filter, map, if◌then◌else◌}
use Rattle.std.specs.List.{list_any}
use Rattle.elem.specs.declared.kind.Role.{Role}
use Rattle.elem.specs.declared.kind.Role.TheVariants.{Arrow, Text}
use Rattle.elem.specs.declared.parts.BoundRef.{BoundRef}
use Rattle.elem.specs.declared.parts.Binding.{Binding}
use Rattle.elem.specs.ElementValue.{ElementValue}
use Rattle.elem.specs.Order.{has_id}
use Rattle.links.specs.Names.{is_id, target_of, is_target, has_end_at}
use Rattle.links.specs.Entries.{arrow_entry, text_entry, first_entries}
use Rattle.links.specs.Texts.{text_of}

-- whether what an end names is a bindable target of the list
abbrev pub names_target : List ElementValue → Option (List ℕ) → Bool
names_target list None = false
names_target list (Some id) = list_any (λ target. has_id id target && is_target target) list

-- an end as it is if it names a bindable target of the list, or without a binding
abbrev pub settled_end : List ElementValue → Option Binding → Option Binding
settled_end list end' = if names_target list (target_of end') then end' else None

-- whether an arrow is bound to an element: an end names it, and it is a bindable target
abbrev pub is_bound_to : ElementValue → ElementValue → Bool
is_bound_to e arrow = is_target e && has_end_at e.id arrow

-- whether an entry of an element's listing is true: of an arrow of the list that is bound to it, or
-- of its text
abbrev pub is_true_as : Role → List ElementValue → ElementValue → List ℕ → Bool
is_true_as Arrow list e id = list_any (λ arrow. has_id id arrow && is_bound_to e arrow) list
is_true_as Text list e id = is_id id (text_of list e)

abbrev pub is_true_entry : List ElementValue → ElementValue → BoundRef → Bool
is_true_entry list e entry = is_true_as entry.role list e entry.id

-- the entries of the arrows that are bound to an element, in the list's order, and that of its text
abbrev pub arrow_entries : List ElementValue → ElementValue → List BoundRef
arrow_entries list e =
    map (λ (arrow : ElementValue). arrow_entry arrow.id) (filter (is_bound_to e) list)

abbrev pub text_entries : Option (List ℕ) → List BoundRef
text_entries None = []
text_entries (Some id) = text_entry id ∷ []

-- The listing of this element: its own true entries, then the entries of the arrows that are bound
-- to it, in the list's order, then that of its text; of each the first occurrence.
unfoldable pub listing : List ElementValue → ElementValue → List BoundRef
listing list e =
    first_entries (filter (is_true_entry list e) e.bound
    ++ (arrow_entries list e ++ text_entries (text_of list e)))

-- the settled element of arrows: with its ends settled, and its listing made anew
abbrev pub with_settled_links : List ElementValue → ElementValue → ElementValue
with_settled_links list e = record e {
  start_binding = settled_end list e.start_binding;
  end_binding = settled_end list e.end_binding;
  bound = listing list e;
}

-- each element with its links settled
abbrev pub settled_arrows : List ElementValue → List ElementValue
settled_arrows list = map (with_settled_links list) list
