-- The element that members say, told by look-ups of their names: the order of the members plays no
-- part.
use Rattle.std.specs.Prelude.{◌≡◌, ℕ, List, Bool, true, false, Option, None, All, IfSome, codes, bytes_eq}
use Rattle.std.specs.Str.{IsUtf8}
use Rattle.std.specs.List.{AllByRecursion}
use Rattle.frac_keys.specs.Keys.{is_key}
use Rattle.elem.specs.declared.kind.Kind.{Kind}
use Rattle.elem.specs.declared.parts.BoundRef.{BoundRef}
use Rattle.elem.specs.declared.parts.Binding.{Binding}
use Rattle.elem.specs.ElementValue.{ElementValue}
use Rattle.elem.specs.Facts.{is_header, names, IsElement}
use Rattle.elem.specs.Forms.{Find, IsId, IsKindName, IsWholeNumber, IsTruth, IsTextOrNull, IsKeyOrNull, AreTexts, IsListing, IsBindingOrNull, AreOthers}
use Rattle.elem.specs.Texts.{kind_name}

-- whether this is the kind of this name
abbrev pub is_named : List ℕ → Kind → Bool
is_named name kind = bytes_eq name (kind_name kind)

-- A header member of one kind alone: in the other kinds it says nothing.
abbrev pub IsOwn : {A : Type 0} → Bool → (Option (List ℕ) → Option A → Type 0) → Option (List ℕ)
    → Option A → Type 0
IsOwn true IsForm found part = IsForm found part
IsOwn false IsForm found part = part ≡ None

-- What is found under these names says this element: each header member has its form, and all else
-- is kept. A row a member. After Excalidraw's element types; the forms and that all else is kept
-- are this project's own.
pub record Says (find : Find) (e : ElementValue) : Type 0 where
  pub id : IsId (find (codes "id")) e.id
  pub kind : IsKindName (find (codes "type")) e.kind
  pub version : IsWholeNumber (find (codes "version")) e.version
  pub nonce : IsWholeNumber (find (codes "versionNonce")) e.nonce
  pub updated : IsWholeNumber (find (codes "updated")) e.updated
  pub index : IsKeyOrNull (find (codes "index")) e.index
  pub deleted : IsTruth (find (codes "isDeleted")) e.deleted
  pub groups : AreTexts (find (codes "groupIds")) e.groups
  pub frame : IsTextOrNull (find (codes "frameId")) e.frame
  pub bound : IsListing (find (codes "boundElements")) e.bound
  pub container : IsOwn (is_named (codes "text") e.kind) IsTextOrNull (find (codes "containerId"))
      e.container
  pub start_binding : IsOwn (is_named (codes "arrow") e.kind) IsBindingOrNull
      (find (codes "startBinding")) e.start_binding
  pub end_binding : IsOwn (is_named (codes "arrow") e.kind) IsBindingOrNull
      (find (codes "endBinding")) e.end_binding
  pub file : IsOwn (is_named (codes "image") e.kind) IsTextOrNull (find (codes "fileId")) e.file
  pub rest : AreOthers (is_header e.kind) find e.rest

-- The texts of a binding are UTF-8.
pub record IsBindingText (binding : Binding) : Type 0 where
  pub target : IsUtf8 binding.target
  pub rest : AllByRecursion IsUtf8 (names binding.rest)

-- The texts of an element are UTF-8 and its index is a key, as their types keep.
pub record HasValidTexts (e : ElementValue) : Type 0 where
  pub id : IsUtf8 e.id
  pub kind : IsUtf8 (kind_name e.kind)
  pub index : IfSome e.index (λ key. is_key key ≡ true)
  pub groups : AllByRecursion IsUtf8 e.groups
  pub frame : IfSome e.frame IsUtf8
  pub bound : AllByRecursion (λ (entry : BoundRef). IsUtf8 entry.id) e.bound
  pub container : IfSome e.container IsUtf8
  pub start_binding : IfSome e.start_binding IsBindingText
  pub end_binding : IfSome e.end_binding IsBindingText
  pub file : IfSome e.file IsUtf8
  pub rest : AllByRecursion IsUtf8 (names e.rest)

-- These are elements, as their types keep them.
abbrev pub AreElements : List ElementValue → Type 0
AreElements elements = All (λ e. IsElement e × HasValidTexts e) elements
