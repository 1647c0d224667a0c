-- Which frame an element is in. The repair of frame names is this project's own.
use Rattle.std.specs.Prelude.{◌≡◌, ℕ, List, Bool, true, false, not, ◌&&◌, None, IfSome, All, Any, map, bytes_eq, if◌then◌else◌}
use Rattle.std.specs.List.{list_any}
use Rattle.std.specs.Option.{option_map_or}
use Rattle.elem.specs.declared.kind.Kind.{Kind}
use Rattle.elem.specs.declared.kind.Kind.TheVariants.{Rectangle, Diamond, Ellipse, Arrow, Line, Freedraw, Text, Image, Frame, Magicframe, Iframe, Embeddable, Other}
use Rattle.elem.specs.ElementValue.{ElementValue}

-- whether elements of this kind are frames: frames and magicframes are
abbrev pub is_frame_kind : Kind → Bool
is_frame_kind Frame = true
is_frame_kind Magicframe = true
is_frame_kind Rectangle = false
is_frame_kind Diamond = false
is_frame_kind Ellipse = false
is_frame_kind Arrow = false
is_frame_kind Line = false
is_frame_kind Freedraw = false
is_frame_kind Text = false
is_frame_kind Image = false
is_frame_kind Iframe = false
is_frame_kind Embeddable = false
is_frame_kind (Other name) = false

-- whether an element is a frame, and whether it is the one of this id
abbrev pub is_frame : ElementValue → Bool
is_frame e = is_frame_kind e.kind

abbrev pub is_frame_of : List ℕ → ElementValue → Bool
is_frame_of id e = is_frame e && bytes_eq id e.id

-- whether the list has a frame of this id
abbrev pub has_frame : List ElementValue → List ℕ → Bool
has_frame elements id = list_any (is_frame_of id) elements

-- Whether an element keeps its frame name: that names a frame, and the element itself is none.
abbrev pub keeps_frame : (List ℕ → Bool) → ElementValue → Bool
keeps_frame names_frame e = not (is_frame e) && option_map_or names_frame e.frame false

-- the element without a frame name
abbrev pub without_frame : ElementValue → ElementValue
without_frame e = record e { frame = None }

-- the element, its frame name gone if that isn't kept
abbrev pub framed : (List ℕ → Bool) → ElementValue → ElementValue
framed names_frame e = if keeps_frame names_frame e then e else without_frame e

-- each element of a list with the frame name that it keeps
abbrev pub frames_settled : List ElementValue → List ElementValue
frames_settled elements = map (framed (has_frame elements)) elements

-- Each frame name names a frame of the list, and frames have none themselves.
abbrev pub NameFrames : List ElementValue → Type 0
NameFrames elements =
    All (λ (e : ElementValue). IfSome e.frame (λ id. (is_frame e ≡ false)
    × Any (λ (frame : ElementValue). (is_frame frame ≡ true) × (frame.id ≡ id)) elements)) elements
