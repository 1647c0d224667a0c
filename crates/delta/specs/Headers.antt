-- The scalar members of an element: all outside the stamp but its id, its type and its two lists.
-- This project's own.
use Rattle.std.specs.Prelude.{ℕ, List, Option, Some, None, codes, bytes_eq, if◌then◌else◌}
use Rattle.json_text.specs.Members.{pairs}
use Rattle.json_text.specs.declared.text.Member.{Member}
use Rattle.scene_json.specs.Named.{value_at}
use Rattle.elem.specs.declared.kind.Kind.{Kind}
use Rattle.elem.specs.declared.kind.Kind.TheVariants.{Rectangle, Diamond, Ellipse, Arrow, Line, Freedraw, Text, Image, Frame, Magicframe, Iframe, Embeddable, Other}
use Rattle.elem.specs.ElementValue.{ElementValue}
use Rattle.elem.specs.Texts.{truth_text, text_or_null, binding_text}
use Rattle.delta.specs.declared.header.Header.{Header}
use Rattle.delta.specs.declared.header.Header.TheVariants as headers

-- the scalar header member of this name that one kind alone has
abbrev pub own_header : Kind → List ℕ → Option Header
own_header Text name = if bytes_eq name (codes "containerId") then Some headers.Container else None
own_header Arrow name =
    if bytes_eq name (codes "startBinding") then Some headers.StartBinding
    else (if bytes_eq name (codes "endBinding") then Some headers.EndBinding else None)
own_header Image name = if bytes_eq name (codes "fileId") then Some headers.File else None
own_header Rectangle name = None
own_header Diamond name = None
own_header Ellipse name = None
own_header Line name = None
own_header Freedraw name = None
own_header Frame name = None
own_header Magicframe name = None
own_header Iframe name = None
own_header Embeddable name = None
own_header (Other other) name = None

-- the scalar header member of this name in elements of a kind
abbrev pub header_named : Kind → List ℕ → Option Header
header_named kind name =
    if bytes_eq name (codes "isDeleted") then Some headers.Deleted
    else (if bytes_eq name (codes "index") then Some headers.Index
    else (if bytes_eq name (codes "frameId") then Some headers.Frame else own_header kind name))

-- the compact text of a header member
abbrev pub scalar_text : ElementValue → Header → List ℕ
scalar_text e headers.Deleted = truth_text e.deleted
scalar_text e headers.Index = text_or_null e.index
scalar_text e headers.Frame = text_or_null e.frame
scalar_text e headers.Container = text_or_null e.container
scalar_text e headers.StartBinding = binding_text e.start_binding
scalar_text e headers.EndBinding = binding_text e.end_binding
scalar_text e headers.File = text_or_null e.file

-- the value of the member of this name, if there is one
abbrev pub value_named : List ℕ → List Member → Option (List ℕ)
value_named name members = value_at name (pairs members)

abbrev pub scalar_at : ElementValue → List ℕ → Option Header → Option (List ℕ)
scalar_at e name (Some header) = Some (scalar_text e header)
scalar_at e name None = value_named name e.rest

-- the compact text of the scalar member of this name, if the element has one
abbrev pub scalar_of : ElementValue → List ℕ → Option (List ℕ)
scalar_of e name = scalar_at e name (header_named e.kind name)
