-- What holds of every part and of every entry.
use Rattle.std.specs.Prelude.{◌≡◌, ℕ, List, [], ◌∷◌, Bool, true, false, Option, Some, None, IfSome, IsSomeAnd, IsTrue, map, codes, bytes_eq}
use Rattle.std.specs.List.{AllByRecursion, list_any}
use Rattle.json_text.specs.Value.{IsCompact}
use Rattle.frac_keys.specs.Keys.{is_key}
use Rattle.frac_keys.specs.Rising.{are_rising}
use Rattle.elem.specs.declared.kind.Kind.{Kind}
use Rattle.elem.specs.declared.parts.Binding.{Binding}
use Rattle.elem.specs.Facts.{IsBinding}
use Rattle.elem.specs.Texts.{truth_text, text_or_null, binding_text}
use Rattle.delta.specs.declared.change.Change.{Change}
use Rattle.delta.specs.declared.change.Change.TheVariants.{Scalar, Groups, Bound}
use Rattle.delta.specs.declared.header.Header.{Header}
use Rattle.delta.specs.declared.header.Header.TheVariants as headers
use Rattle.delta.specs.Delta.{Delta}
use Rattle.delta.specs.Headers.{header_named}

-- the names of members that are no scalars: what an element is, its stamp and its two lists
abbrev pub other_names : List (List ℕ)
other_names =
    codes "id" ∷ codes "type" ∷ codes "groupIds" ∷ codes "boundElements" ∷ codes "version"
    ∷ codes "versionNonce"
    ∷ codes "updated" ∷ []

-- the name of the member that a change is of
abbrev pub name_of : Change → List ℕ
name_of (Scalar name before after) = name
name_of (Groups before after) = codes "groupIds"
name_of (Bound before after) = codes "boundElements"

-- A header member has a value of a form that is accepted: a truth; null or a key; null or a text;
-- null or a binding, its members in the order of their names.
abbrev pub IsAccepted : Header → List ℕ → Type 0
IsAccepted headers.Deleted value = (truth : Bool) × (value ≡ truth_text truth)
IsAccepted headers.Index value = (key : Option (List ℕ)) × IfSome key (λ k. IsTrue (is_key k))
    × (value ≡ text_or_null key)
IsAccepted headers.Frame value = (id : Option (List ℕ)) × (value ≡ text_or_null id)
IsAccepted headers.Container value = (id : Option (List ℕ)) × (value ≡ text_or_null id)
IsAccepted headers.StartBinding value = (binding : Option Binding) × IfSome binding IsBinding
    × (value ≡ binding_text binding)
IsAccepted headers.EndBinding value = (binding : Option Binding) × IfSome binding IsBinding
    × (value ≡ binding_text binding)
IsAccepted headers.File value = (id : Option (List ℕ)) × (value ≡ text_or_null id)

-- A scalar may have this value, or none: a header member has one of a form that is accepted; each
-- nests at most 119.
abbrev pub IsScalar : Option Header → Option (List ℕ) → Type 0
IsScalar (Some header) value = IsSomeAnd value (λ v. IsAccepted header v × IsCompact 119 v)
IsScalar None value = IfSome value (IsCompact 119)

-- A change of an element of this kind names a scalar and has values for it, or is of a list.
abbrev pub IsChange : Kind → Change → Type 0
IsChange kind (Scalar name before after) =
    (list_any (bytes_eq name) other_names ≡ false)
    × IsScalar (header_named kind name) before × IsScalar (header_named kind name) after
IsChange kind (Groups before after) = Unit {0}
IsChange kind (Bound before after) = Unit {0}

abbrev pub change_names : List Change → List (List ℕ)
change_names changes = map name_of changes

-- The changes stand in the order of their members' names, no member is changed twice, and each
-- change is one.
pub record IsPart (part : Delta) : Type 0 where
  pub rise : are_rising (change_names part.changes) ≡ true
  pub each : AllByRecursion (IsChange part.kind) part.changes

-- The ids of an entry's parts rise.
abbrev pub part_ids : List Delta → List (List ℕ)
part_ids parts = map (λ (part : Delta). part.id) parts

abbrev pub AreParts : List Delta → Type 0
AreParts parts = are_rising (part_ids parts) ≡ true
