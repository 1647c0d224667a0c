-- What holds of every element.
use Rattle.std.specs.Prelude.{◌≡◌, ◌≢◌, ℕ, ◌≤◌, List, [], ◌∷◌, Bool, true, false, ◌||◌, IfSome, map, codes, bytes_eq}
use Rattle.std.specs.List.{AllByRecursion, list_any}
use Rattle.json_text.specs.Value.{IsCompact}
use Rattle.json_text.specs.declared.text.Member.{Member}
use Rattle.frac_keys.specs.Rising.{are_rising}
use Rattle.elem.specs.declared.kind.Kind.{Kind}
use Rattle.elem.specs.declared.kind.Kind.TheVariants.{Rectangle, Diamond, Ellipse, Arrow, Line, Freedraw, Text, Image, Frame, Magicframe, Iframe, Embeddable, Other}
use Rattle.elem.specs.declared.parts.Binding.{Binding}
use Rattle.elem.specs.ElementValue.{ElementValue}

-- the greatest version, nonce or time: the greatest whole number that JavaScript counts exactly
abbrev pub greatest_whole : ℕ
greatest_whole = 9007199254740991

-- the names of the header members that all kinds have, and those of one kind alone
abbrev pub header_names : List (List ℕ)
header_names =
    codes "id" ∷ codes "type" ∷ codes "version" ∷ codes "versionNonce" ∷ codes "updated"
    ∷ codes "isDeleted" ∷ codes "index"
    ∷ codes "groupIds" ∷ codes "frameId" ∷ codes "boundElements" ∷ []

abbrev pub own_names : Kind → List (List ℕ)
own_names Text = codes "containerId" ∷ []
own_names Arrow = codes "startBinding" ∷ codes "endBinding" ∷ []
own_names Image = codes "fileId" ∷ []
own_names Rectangle = []
own_names Diamond = []
own_names Ellipse = []
own_names Line = []
own_names Freedraw = []
own_names Frame = []
own_names Magicframe = []
own_names Iframe = []
own_names Embeddable = []
own_names (Other name) = []

-- whether a member of this name is a header member of this kind
abbrev pub is_header : Kind → List ℕ → Bool
is_header kind name =
    list_any (bytes_eq name) header_names || list_any (bytes_eq name) (own_names kind)

-- the names that other variants of a kind have, and `selection`, which is no element
abbrev pub known_names : List (List ℕ)
known_names =
    codes "rectangle" ∷ codes "diamond" ∷ codes "ellipse" ∷ codes "arrow" ∷ codes "line"
    ∷ codes "freedraw" ∷ codes "text"
    ∷ codes "image" ∷ codes "frame" ∷ codes "magicframe" ∷ codes "iframe" ∷ codes "embeddable"
    ∷ codes "selection" ∷ []

-- Another kind has none of the known names.
abbrev pub IsKind : Kind → Type 0
IsKind (Other name) = list_any (bytes_eq name) known_names ≡ false
IsKind Rectangle = Unit {0}
IsKind Diamond = Unit {0}
IsKind Ellipse = Unit {0}
IsKind Arrow = Unit {0}
IsKind Line = Unit {0}
IsKind Freedraw = Unit {0}
IsKind Text = Unit {0}
IsKind Image = Unit {0}
IsKind Frame = Unit {0}
IsKind Magicframe = Unit {0}
IsKind Iframe = Unit {0}
IsKind Embeddable = Unit {0}

abbrev pub names : List Member → List (List ℕ)
names members = map (λ (member : Member). member.name) members

-- Each value nests at most so deep.
abbrev pub AllNest : ℕ → List Member → Type 0
AllNest limit members = AllByRecursion (λ (member : Member). IsCompact limit member.value) members

-- The further members of a binding have rising names, none of them `elementId`; it is in an element
-- that nests at most 120.
pub record IsBinding (binding : Binding) : Type 0 where
  pub rise : are_rising (names binding.rest) ≡ true
  pub free : list_any (bytes_eq (codes "elementId")) (names binding.rest) ≡ false
  pub nest : AllNest 118 binding.rest

-- The id isn't empty; the numbers are within their limit; a container is there for a text alone,
-- bindings for an arrow, a file for an image; the other names rise, and none is a header name of
-- the kind; the element nests at most 120.
pub record IsElement (e : ElementValue) : Type 0 where
  pub named : e.id ≢ []
  pub version : e.version ≤ greatest_whole
  pub nonce : e.nonce ≤ greatest_whole
  pub updated : e.updated ≤ greatest_whole
  pub kind : IsKind e.kind
  pub container : IfSome e.container (λ id. e.kind ≡ Text)
  pub start_binding : IfSome e.start_binding (λ binding. (e.kind ≡ Arrow) × IsBinding binding)
  pub end_binding : IfSome e.end_binding (λ binding. (e.kind ≡ Arrow) × IsBinding binding)
  pub file : IfSome e.file (λ id. e.kind ≡ Image)
  pub rise : are_rising (names e.rest) ≡ true
  pub free : list_any (is_header e.kind) (names e.rest) ≡ false
  pub nest : AllNest 119 e.rest
