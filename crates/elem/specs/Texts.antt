-- The text of an element.
use Rattle.std.specs.Prelude.{ℕ, List, [], ◌∷◌, ◌++◌, Bool, true, false, Option, Some, None, map, codes, decimal, if◌then◌else◌}
use Rattle.json_text.specs.Characters.{quote}
use Rattle.json_text.specs.Tree.{null_word, true_word, false_word}
use Rattle.json_text.specs.Compact.{Member as Pair, array_text, object_text}
use Rattle.json_text.specs.Members.{pairs}
use Rattle.frac_keys.specs.Keys.{bytes_less}
use Rattle.elem.specs.declared.kind.Kind.{Kind}
use Rattle.elem.specs.declared.kind.Kind.TheVariants.{Rectangle, Diamond, Ellipse, Arrow, Line, Freedraw, Text, Image, Frame, Magicframe, Iframe, Embeddable, Other}
use Rattle.elem.specs.declared.kind.Role.{Role}
use Rattle.elem.specs.declared.kind.Role.TheVariants as roles
use Rattle.elem.specs.declared.parts.BoundRef.{BoundRef}
use Rattle.elem.specs.declared.parts.Binding.{Binding}
use Rattle.elem.specs.ElementValue.{ElementValue}

-- what stands for a kind in a member `type`
abbrev pub kind_name : Kind → List ℕ
kind_name Rectangle = codes "rectangle"
kind_name Diamond = codes "diamond"
kind_name Ellipse = codes "ellipse"
kind_name Arrow = codes "arrow"
kind_name Line = codes "line"
kind_name Freedraw = codes "freedraw"
kind_name Text = codes "text"
kind_name Image = codes "image"
kind_name Frame = codes "frame"
kind_name Magicframe = codes "magicframe"
kind_name Iframe = codes "iframe"
kind_name Embeddable = codes "embeddable"
kind_name (Other name) = name

abbrev pub role_name : Role → List ℕ
role_name roles.Arrow = codes "arrow"
role_name roles.Text = codes "text"

abbrev pub truth_text : Bool → List ℕ
truth_text true = true_word
truth_text false = false_word

abbrev pub text_or_null : Option (List ℕ) → List ℕ
text_or_null None = null_word
text_or_null (Some text) = quote text

-- Members in the order of the bytes of their names: each goes before the first whose name is
-- greater.
abbrev pub with_member : Pair → List Pair → List Pair
with_member member [] = member ∷ []
with_member member (other ∷ others) =
    if bytes_less other.0 member.0 then other ∷ with_member member others else member ∷ other
    ∷ others

abbrev pub sorted_members : List Pair → List Pair
sorted_members [] = []
sorted_members (member ∷ members) = with_member member (sorted_members members)

abbrev pub bound_text : BoundRef → List ℕ
bound_text entry =
    object_text ((codes "id", quote entry.id) ∷ (codes "type", quote (role_name entry.role)) ∷ [])

abbrev pub binding_text : Option Binding → List ℕ
binding_text None = null_word
binding_text (Some binding) =
    object_text (sorted_members ((codes "elementId", quote binding.target) ∷ pairs binding.rest))

-- the members that a kind has beside those of all kinds
abbrev pub own_members : ElementValue → Kind → List Pair
own_members e Text = (codes "containerId", text_or_null e.container) ∷ []
own_members e Arrow = (codes "startBinding", binding_text e.start_binding)
    ∷ (codes "endBinding", binding_text e.end_binding) ∷ []
own_members e Image = (codes "fileId", text_or_null e.file) ∷ []
own_members e Rectangle = []
own_members e Diamond = []
own_members e Ellipse = []
own_members e Line = []
own_members e Freedraw = []
own_members e Frame = []
own_members e Magicframe = []
own_members e Iframe = []
own_members e Embeddable = []
own_members e (Other name) = []

-- the header members of an element
abbrev pub header_members : ElementValue → List Pair
header_members e =
    (codes "id", quote e.id) ∷ (codes "type", quote (kind_name e.kind))
    ∷ (codes "version", decimal e.version) ∷ (codes "versionNonce", decimal e.nonce)
    ∷ (codes "updated", decimal e.updated)
    ∷ (codes "isDeleted", truth_text e.deleted) ∷ (codes "index", text_or_null e.index)
    ∷ (codes "groupIds", array_text (map quote e.groups)) ∷ (codes "frameId", text_or_null e.frame)
    ∷ (codes "boundElements", array_text (map bound_text e.bound)) ∷ own_members e e.kind

-- the members of an element in the order of the bytes of their names, and its text
unfoldable pub element_members : ElementValue → List Pair
element_members e = sorted_members (header_members e ++ pairs e.rest)

abbrev pub element_text : ElementValue → List ℕ
element_text e = object_text (element_members e)
