-- How the text of an element is written. Only contracts of private functions cite this.
use Rattle.std.specs.Prelude.{◌≡◌, ℕ, List, [], ◌∷◌, ◌++◌, map, codes, decimal, length, ◌==◌, if◌then◌else◌}
use Rattle.std.specs.List.{AllByRecursion, join_with_byte}
use Rattle.std.specs.Str.{IsUtf8}
use Rattle.json_text.specs.Characters.{quote}
use Rattle.json_text.specs.Compact.{Member as Pair, member_text, array_text}
use Rattle.json_text.specs.Members.{pairs}
use Rattle.json_text.specs.Value.{IsCompact}
use Rattle.json_text.specs.declared.text.Member.{Member}
use Rattle.frac_keys.specs.Keys.{bytes_less}
use Rattle.elem.specs.declared.kind.Kind.{Kind}
use Rattle.elem.specs.declared.kind.Kind.TheVariants as kinds
use Rattle.elem.specs.declared.header.Header.{Header}
use Rattle.elem.specs.declared.header.Header.TheVariants.{BoundElements, ContainerId, EndBinding, FileId, FrameId, GroupIds, Id, Index, IsDeleted, StartBinding, KindName, Updated, Version, VersionNonce}
use Rattle.elem.specs.ElementValue.{ElementValue}
use Rattle.elem.specs.Texts.{kind_name, truth_text, text_or_null, bound_text, binding_text}

-- what stands of an object once these are its members so far: nothing where there is none yet
abbrev pub opened : List Pair → List ℕ
opened [] = []
opened (member ∷ members) = 123 ∷ join_with_byte 44 (map member_text (member ∷ members))

-- Behind the bytes that were there, the object with these members is begun.
abbrev pub IsBegun : List ℕ → List Pair → List ℕ → Type 0
IsBegun before members out = out ≡ before ++ opened members

-- what stands before one more member of an object that begins at an offset: `{` before the first,
-- and else a comma
abbrev pub mark : ℕ → List ℕ → ℕ
mark start out = if length out == start then 123 else 44

-- the first members, whose names are less than this one, and the others
abbrev pub members_below : List ℕ → List Member → List Member
members_below name [] = []
members_below name (member ∷ members) =
    if bytes_less member.name name then member ∷ members_below name members else []

abbrev pub members_not_below : List ℕ → List Member → List Member
members_not_below name [] = []
members_not_below name (member ∷ members) =
    if bytes_less member.name name then members_not_below name members else member ∷ members

-- the header members and the others in the order of their names
abbrev pub merged : List Pair → List Member → List Pair
merged [] rest = pairs rest
merged (header ∷ headers) rest = pairs (members_below header.0 rest) ++ header
    ∷ merged headers (members_not_below header.0 rest)

-- Each name is a text, and each value is a compact text that nests at most so deep.
abbrev pub AreSound : ℕ → List Pair → Type 0
AreSound limit members =
    AllByRecursion (λ (member : Pair). IsUtf8 member.0 × IsCompact limit member.1) members

abbrev pub header_name : Header → List ℕ
header_name BoundElements = codes "boundElements"
header_name ContainerId = codes "containerId"
header_name EndBinding = codes "endBinding"
header_name FileId = codes "fileId"
header_name FrameId = codes "frameId"
header_name GroupIds = codes "groupIds"
header_name Id = codes "id"
header_name Index = codes "index"
header_name IsDeleted = codes "isDeleted"
header_name StartBinding = codes "startBinding"
header_name KindName = codes "type"
header_name Updated = codes "updated"
header_name Version = codes "version"
header_name VersionNonce = codes "versionNonce"

-- the value of a header member
abbrev pub header_value : ElementValue → Header → List ℕ
header_value e BoundElements = array_text (map bound_text e.bound)
header_value e ContainerId = text_or_null e.container
header_value e EndBinding = binding_text e.end_binding
header_value e FileId = text_or_null e.file
header_value e FrameId = text_or_null e.frame
header_value e GroupIds = array_text (map quote e.groups)
header_value e Id = quote e.id
header_value e Index = text_or_null e.index
header_value e IsDeleted = truth_text e.deleted
header_value e StartBinding = binding_text e.start_binding
header_value e KindName = quote (kind_name e.kind)
header_value e Updated = decimal e.updated
header_value e Version = decimal e.version
header_value e VersionNonce = decimal e.nonce

abbrev pub header_pair : ElementValue → Header → Pair
header_pair e header = (header_name header, header_value e header)

-- the header members of a kind in the order of their names
abbrev pub headers_of : Kind → List Header
headers_of kinds.Text =
    BoundElements ∷ ContainerId ∷ FrameId ∷ GroupIds ∷ Id ∷ Index ∷ IsDeleted ∷ KindName ∷ Updated
    ∷ Version
    ∷ VersionNonce ∷ []
headers_of kinds.Arrow =
    BoundElements ∷ EndBinding ∷ FrameId ∷ GroupIds ∷ Id ∷ Index ∷ IsDeleted ∷ StartBinding
    ∷ KindName
    ∷ Updated ∷ Version
    ∷ VersionNonce ∷ []
headers_of kinds.Image =
    BoundElements ∷ FileId ∷ FrameId ∷ GroupIds ∷ Id ∷ Index ∷ IsDeleted ∷ KindName ∷ Updated
    ∷ Version
    ∷ VersionNonce ∷ []
headers_of _ =
    BoundElements ∷ FrameId ∷ GroupIds ∷ Id ∷ Index ∷ IsDeleted ∷ KindName ∷ Updated ∷ Version
    ∷ VersionNonce ∷ []
