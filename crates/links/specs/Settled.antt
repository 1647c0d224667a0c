-- What holds of a list whose links are settled, and what settling leaves as it is. This project's
-- own.
use Rattle.std.specs.Prelude.{◌≡◌, ◌≤◌, List, [], true, false, Some, None, Contains, IfSome, filter, length}
use Rattle.elem.specs.declared.parts.BoundRef.{BoundRef}
use Rattle.elem.specs.declared.parts.Binding.{Binding}
use Rattle.elem.specs.ElementValue.{ElementValue}
use Rattle.links.specs.Arrows.{names_target, settled_arrows}
use Rattle.links.specs.Entries.{arrow_entry, text_entry, lists}
use Rattle.links.specs.Names.{has_end_at, names_container}
use Rattle.links.specs.Texts.{is_for_text, settled_texts}

-- an arrow names an element exactly if that element lists it
abbrev pub ArrowsAgree : List ElementValue → Type 0
ArrowsAgree list =
    (arrow e : ElementValue) → Contains list arrow → Contains list e
    → has_end_at e.id arrow ≡ lists e.bound (arrow_entry arrow.id)

-- a text names a container exactly if the container lists it
abbrev pub TextsAgree : List ElementValue → Type 0
TextsAgree list =
    (text container : ElementValue) → Contains list text → Contains list container
    → names_container container.id text ≡ lists container.bound (text_entry text.id)

-- the entries of texts in an element's listing, of which there is one at most
abbrev pub texts_listed : ElementValue → List BoundRef
texts_listed e = filter (λ (entry : BoundRef). is_for_text entry.role) e.bound

abbrev pub HaveOneText : List ElementValue → Type 0
HaveOneText list = (e : ElementValue) → Contains list e → length (texts_listed e) ≤ 1

-- each binding names a bindable target of the list
abbrev pub NameTargets : List ElementValue → Type 0
NameTargets list =
    (e : ElementValue) → Contains list e
    → IfSome e.start_binding (λ (binding : Binding). names_target list (Some binding.target) ≡ true)
    × IfSome e.end_binding (λ (binding : Binding). names_target list (Some binding.target) ≡ true)

-- the element without what settling changes: its listing, its container and the bindings of its
-- ends
abbrev pub unlinked : ElementValue → ElementValue
unlinked e = record e { bound = []; container = None; start_binding = None; end_binding = None }

-- the elements with their texts settled and then their arrows
abbrev pub settled_links : List ElementValue → List ElementValue
settled_links list = settled_arrows (settled_texts list)

-- the element without what settling doesn't look at: all but its id, its kind, its listing, its
-- container and its bindings
abbrev pub unplaced : ElementValue → ElementValue
unplaced e = record e {
  version = 0;
  nonce = 0;
  updated = 0;
  deleted = false;
  index = None;
  groups = [];
  frame = None;
  file = None;
  rest = [];
}
