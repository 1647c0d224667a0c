-- The header members in the order of their names, and with the others.
use Rattle.std.proofs.Common.{◌≡◌, ◌<◌, List, [], ◌∷◌, ◌++◌, map, length, bytes_eq, codes, decimal, refl, sym, ap, ◌∙◌, subst, arith}
use Rattle.std.specs.List.{IsDistinct}
use Rattle.std.specs.List.Sorted.{IsPermutation}
use Rattle.std.proofs.lemmas.List.Sorted.{IsPermutation-refl}
use Rattle.json_text.specs.Characters.{quote}
use Rattle.json_text.specs.Compact.{Member as Pair, array_text, object_text}
use Rattle.json_text.specs.Members.{pairs}
use Rattle.json_text.specs.declared.text.Member.{Member}
use Rattle.json_text.specs.Value.{IsCompact}
use Rattle.json_text.proofs.CallerLemmas.{names_of}
use Rattle.scene_json.proofs.CallerLemmas.{names-pairs}
use Rattle.frac_keys.specs.Rising.{are_rising}
use Rattle.elem.specs.declared.kind.Kind.{Kind}
use Rattle.elem.specs.declared.kind.Kind.TheVariants.{Rectangle, Diamond, Ellipse, Arrow, Line, Freedraw, Text, Image, Frame, Magicframe, Iframe, Embeddable, Other}
use Rattle.elem.specs.declared.parts.Binding.{Binding}
use Rattle.elem.specs.ElementValue.{ElementValue}
use Rattle.elem.specs.Facts.{IsElement, IsBinding}
use Rattle.elem.specs.inner.Printing.{header_pair, headers_of, AreSound}
use Rattle.elem.specs.Texts.{kind_name, truth_text, text_or_null, bound_text, own_members, header_members, sorted_members, element_members}
use Rattle.elem.proofs.Distinct.{IsDistinct-element, IsDistinct-binding, IsDistinct-header, names_of-header}
use Rattle.elem.proofs.Merging.{merged-sorted, length-merged, sound-compact}
use Rattle.elem.specs.inner.Printing.{merged}
use Rattle.elem.proofs.Sorting.{IsRising, IsRising-from, IsRising-sorted, IsPermutation-sorted}

abbrev pub header_pairs : ElementValue → Kind → List Pair
header_pairs e kind = map (header_pair e) (headers_of kind)

-- the header members of all kinds and those of this one
abbrev with_own : ElementValue → Kind → List Pair
with_own e kind =
    (codes "id", quote e.id) ∷ (codes "type", quote (kind_name e.kind))
    ∷ (codes "version", decimal e.version) ∷ (codes "versionNonce", decimal e.nonce)
    ∷ (codes "updated", decimal e.updated)
    ∷ (codes "isDeleted", truth_text e.deleted) ∷ (codes "index", text_or_null e.index)
    ∷ (codes "groupIds", array_text (map quote e.groups)) ∷ (codes "frameId", text_or_null e.frame)
    ∷ (codes "boundElements", array_text (map bound_text e.bound)) ∷ own_members e kind

sorted-headers : (e : ElementValue) (kind : Kind) → sorted_members (with_own e kind) ≡ header_pairs e kind
sorted-headers e Rectangle = refl
sorted-headers e Diamond = refl
sorted-headers e Ellipse = refl
sorted-headers e Arrow = refl
sorted-headers e Line = refl
sorted-headers e Freedraw = refl
sorted-headers e Text = refl
sorted-headers e Image = refl
sorted-headers e Frame = refl
sorted-headers e Magicframe = refl
sorted-headers e Iframe = refl
sorted-headers e Embeddable = refl
sorted-headers e (Other name) = refl

headers-rise : (e : ElementValue) → IsRising (header_pairs e e.kind)
headers-rise e =
    subst IsRising (sorted-headers e e.kind)
    (IsRising-sorted (header_members e)
    (subst (IsDistinct bytes_eq) (sym (names_of-header e)) (IsDistinct-header e.kind)))

headers-moved : (e : ElementValue) → IsPermutation (header_members e) (header_pairs e e.kind)
headers-moved e =
    subst (IsPermutation (header_members e)) (sorted-headers e e.kind) (IsPermutation-sorted (header_members e))

-- the members of an element
rest-rises : (e : ElementValue) → IsElement e → IsRising (pairs e.rest)
rest-rises e is = IsRising-from (pairs e.rest) (ap are_rising (names-pairs e.rest) ∙ is.rise)

pub merged-element : (e : ElementValue) → IsElement e → merged (header_pairs e e.kind) e.rest ≡ element_members e
unfolding element_members
merged-element e is =
    merged-sorted (header_members e) (header_pairs e e.kind) e.rest (headers-moved e) (headers-rise e) (rest-rises e is)
    (IsDistinct-element e is)

pub element-rises : (e : ElementValue) → IsElement e → IsRising (element_members e)
unfolding element_members
element-rises e is = IsRising-sorted (header_members e ++ pairs e.rest) (IsDistinct-element e is)

-- the members of a binding
distinct : (binding : Binding) → IsBinding binding
    → IsDistinct bytes_eq (codes "elementId" ∷ names_of (pairs binding.rest))
distinct binding is =
    subst (λ ns. IsDistinct bytes_eq (codes "elementId" ∷ ns)) (sym (names-pairs binding.rest))
    (IsDistinct-binding binding is)

abbrev pub target_pair : Binding → Pair
target_pair binding = (codes "elementId", quote binding.target)

pub merged-binding : (binding : Binding) → IsBinding binding → merged (target_pair binding ∷ []) binding.rest
    ≡ sorted_members (target_pair binding ∷ pairs binding.rest)
merged-binding binding is =
    let target = target_pair binding ∷ [] in
    merged-sorted target target binding.rest (IsPermutation-refl target) (
      tt,
      tt,
    ) (IsRising-from (pairs binding.rest) (ap are_rising (names-pairs binding.rest) ∙ is.rise))
    (distinct binding is)

pub binding-rises : (binding : Binding) → IsBinding binding
    → IsRising (sorted_members (target_pair binding ∷ pairs binding.rest))
binding-rises binding is = IsRising-sorted (target_pair binding ∷ pairs binding.rest) (distinct binding is)

-- the object of an element's members
pub element-compact : (e : ElementValue) → IsElement e → AreSound 119 (element_members e)
    → IsCompact 120 (object_text (element_members e))
element-compact e is sound = sound-compact 119 (element_members e) sound (element-rises e is)

-- there is a header member
some : (hs : List Pair) (rest : List Member) → 0 < length hs → 0 < length (merged hs rest)
some [] rest h = absurd (omega arith)
some (p ∷ ps) rest h = length-merged p ps rest

headers : (e : ElementValue) (kind : Kind) → 0 < length (header_pairs e kind)
headers e Text = omega arith
headers e Arrow = omega arith
headers e Image = omega arith
headers e _ = omega arith

pub length-members : (e : ElementValue) → 0 < length (merged (header_pairs e e.kind) e.rest)
length-members e = some (header_pairs e e.kind) e.rest (headers e e.kind)
