-- Which elements name one another: a text its container, an arrow what its ends are bound to.
-- Source: Excalidraw's element types; which kinds may be named is this project's own.
use Rattle.std.specs.Prelude.{ℕ, List, Bool, true, false, ◌&&◌, ◌||◌, Option, Some, None, is_none, bytes_eq}
use Rattle.elem.specs.declared.kind.Kind.{Kind}
use Rattle.elem.specs.declared.kind.Kind.TheVariants.{Rectangle, Diamond, Ellipse, Arrow, Line, Freedraw, Text, Image, Frame, Magicframe, Iframe, Embeddable, Other}
use Rattle.elem.specs.declared.parts.Binding.{Binding}
use Rattle.elem.specs.ElementValue.{ElementValue}

abbrev pub id_of : ElementValue → List ℕ
id_of e = e.id

abbrev pub is_text : Kind → Bool
is_text Text = true
is_text Rectangle = false
is_text Diamond = false
is_text Ellipse = false
is_text Arrow = false
is_text Line = false
is_text Freedraw = false
is_text Image = false
is_text Frame = false
is_text Magicframe = false
is_text Iframe = false
is_text Embeddable = false
is_text (Other name) = false

abbrev pub is_arrow : Kind → Bool
is_arrow Arrow = true
is_arrow Rectangle = false
is_arrow Diamond = false
is_arrow Ellipse = false
is_arrow Line = false
is_arrow Freedraw = false
is_arrow Text = false
is_arrow Image = false
is_arrow Frame = false
is_arrow Magicframe = false
is_arrow Iframe = false
is_arrow Embeddable = false
is_arrow (Other name) = false

-- whether an element of this kind may have a text: a rectangle, a diamond, an ellipse or an arrow
abbrev pub can_hold_text : Kind → Bool
can_hold_text Rectangle = true
can_hold_text Diamond = true
can_hold_text Ellipse = true
can_hold_text Arrow = true
can_hold_text Line = false
can_hold_text Freedraw = false
can_hold_text Text = false
can_hold_text Image = false
can_hold_text Frame = false
can_hold_text Magicframe = false
can_hold_text Iframe = false
can_hold_text Embeddable = false
can_hold_text (Other name) = false

-- whether an element of this kind without a container may be what an arrow is bound to: all but
-- arrows, lines, freedraws and unknown kinds
abbrev pub can_be_bound_to : Kind → Bool
can_be_bound_to Rectangle = true
can_be_bound_to Diamond = true
can_be_bound_to Ellipse = true
can_be_bound_to Text = true
can_be_bound_to Image = true
can_be_bound_to Frame = true
can_be_bound_to Magicframe = true
can_be_bound_to Iframe = true
can_be_bound_to Embeddable = true
can_be_bound_to Arrow = false
can_be_bound_to Line = false
can_be_bound_to Freedraw = false
can_be_bound_to (Other name) = false

-- whether the id is there and is this one
abbrev pub is_id : List ℕ → Option (List ℕ) → Bool
is_id id None = false
is_id id (Some other) = bytes_eq id other

-- whether an element is a text that names one of this id as its container
abbrev pub names_container : List ℕ → ElementValue → Bool
names_container id e = is_text e.kind && is_id id e.container

-- what an end is bound to, and whether that is an element of this id
abbrev pub target_of : Option Binding → Option (List ℕ)
target_of None = None
target_of (Some binding) = Some binding.target

abbrev pub end_names : List ℕ → Option Binding → Bool
end_names id end' = is_id id (target_of end')

-- whether an element is an arrow with an end that names one of this id
abbrev pub has_end_at : List ℕ → ElementValue → Bool
has_end_at id e = is_arrow e.kind && (end_names id e.start_binding || end_names id e.end_binding)

-- Whether an element is a bindable target: its kind may be bound to, and it has no container, as a
-- text may.
abbrev pub is_target : ElementValue → Bool
is_target e = can_be_bound_to e.kind && is_none e.container
