-- What is left of a text whose pieces are read one after the other.
use Rattle.std.proofs.Common.{◌≡◌, ℕ, Bool, true, false, if◌then◌else◌, List, [], ◌∷◌, ◌++◌, Some, map, codes, refl, sym, ap, ◌∙◌, append_assoc}
use Rattle.std.specs.List.{join_with_byte}
use Rattle.json_text.specs.Characters.{quote}
use Rattle.json_text.specs.Compact.{Member as Pair, member_text, array_text, object_text}
use Rattle.json_text.specs.Members.{pair_of}
use Rattle.json_text.specs.declared.text.Member.{Member}
use Rattle.frac_keys.specs.Keys.{bytes_less}
use Rattle.elem.specs.declared.parts.Binding.{Binding}
use Rattle.elem.specs.ElementValue.{ElementValue}
use Rattle.elem.specs.Facts.{IsElement, IsBinding}
use Rattle.elem.specs.inner.Left.{list_left, object_left, Splits}
use Rattle.elem.specs.inner.Printing.{members_below, merged, header_pair, headers_of}
use Rattle.elem.specs.Texts.{binding_text, element_text}
use Rattle.elem.proofs.Headers.{merged-element, merged-binding}
use Rattle.elem.proofs.Merging.{none_below}

-- ---- lists
items_left : (start close : ℕ) (item : List ℕ) (items : List (List ℕ))
    → item ++ list_left start close false items ≡ join_with_byte 44 (item ∷ items) ++ close ∷ []
items_left start close item [] = refl
items_left start close item (next ∷ items) =
    ap (λ rest. item ++ 44 ∷ rest) (items_left start close next items)
    ∙ sym (append_assoc item (44 ∷ join_with_byte 44 (next ∷ items)) (close ∷ []))

list-left : (start close : ℕ) (items : List (List ℕ)) → list_left start close true items ≡ start
    ∷ (join_with_byte 44 items ++ close ∷ [])
list-left start close [] = refl
list-left start close (item ∷ items) = ap (λ rest. start ∷ rest) (items_left start close item items)

pub array_left : (items : List (List ℕ)) → list_left 91 93 true items ≡ array_text items
unfolding array_text
array_left items = list-left 91 93 items

pub object_left_whole : (ms : List Pair) → list_left 123 125 true (map member_text ms) ≡ object_text ms
unfolding object_text
object_left_whole ms = list-left 123 125 (map member_text ms)

-- ---- members of both kinds
-- the first of the others comes before a header member
pub merged-below : (h : Pair) (hs : List Pair) (m : Member) (ms : List Member) → bytes_less m.name h.0 ≡ true
    → merged (h ∷ hs) (m ∷ ms) ≡ pair_of m ∷ merged (h ∷ hs) ms
merged-below h hs m ms below = rw below refl

-- no other comes before a header member
pub merged-header : (h : Pair) (hs : List Pair) (ms : List Member) → members_below h.0 ms ≡ []
    → merged (h ∷ hs) ms ≡ h ∷ merged hs ms
merged-header h hs ms none = rw (none, none_below h.0 ms none) refl

-- ---- the whole texts
pub binding_left : (binding : Binding) → IsBinding binding
    → object_left true ((codes "elementId", quote binding.target) ∷ []) binding.rest ≡ binding_text (Some binding)
binding_left binding is =
    ap (λ ms. list_left 123 125 true (map member_text ms)) (merged-binding binding is) ∙ object_left_whole _

pub element_left : (e : ElementValue) → IsElement e → object_left true (map (header_pair e) (headers_of e.kind)) e.rest
    ≡ element_text e
element_left e is = ap (λ ms. list_left 123 125 true (map member_text ms)) (merged-element e is) ∙ object_left_whole _

pub entry_left : (id role : List ℕ) → 123
    ∷ (quote (codes "id") ++ 58 ∷ (quote id ++ 44 ∷ (member_text (codes "type", role) ++ 125 ∷ [])))
    ≡ object_text ((codes "id", quote id) ∷ (codes "type", role) ∷ [])
unfolding object_text
entry_left id role =
    let kind = member_text (codes "type", role) in
    ap (λ t. 123 ∷ t)
    (ap (λ t. quote (codes "id") ++ 58 ∷ t) (sym (append_assoc (quote id) (44 ∷ kind) (125 ∷ [])))
    ∙ sym (append_assoc (quote (codes "id")) (58 ∷ (quote id ++ 44 ∷ kind)) (125 ∷ []))
    ∙ ap (λ t. t ++ 125 ∷ []) (sym (append_assoc (quote (codes "id")) (58 ∷ quote id) (44 ∷ kind))))

-- ---- a header member
pub header-splits : (first : Bool) (h : Pair) (hs : List Pair) (ms : List Member) (piece more : List ℕ)
    → members_below h.0 ms ≡ []
    → Splits ((if first then 123 else 44) ∷ member_text h) piece more
    → Splits (object_left first (h ∷ hs) ms) piece (more ++ object_left false hs ms)
header-splits first h hs ms piece more none is =
    let left = object_left false hs ms in
    record {
      parts = ap (λ ps. list_left 123 125 first (map member_text ps)) (merged-header h hs ms none)
          ∙ ap (λ t. t ++ left) is.parts ∙ append_assoc piece more left;
      some = is.some;
    }
