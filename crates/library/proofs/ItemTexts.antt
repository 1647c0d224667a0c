-- The text of an item and that of a library by the parts that are appended.
use Rattle.std.proofs.Common.{◌≡◌, ◌⊎◌, ℕ, ◌+◌, ◌<◌, ◌≤◌, Bool, true, false, List, [], ◌∷◌, ◌++◌, length, drop, take, get_or, take_all, Option, Some, None, codes, decimal, map, sym, ap, subst, ◌∙◌, append_assoc, arith}
use Rattle.std.proofs.lemmas.List.{drop_more, length-drop}
use Rattle.std.specs.Fmt.{digits}
use Rattle.std.specs.List.{join_with_byte}
use Rattle.json_text.specs.Characters.{quote}
use Rattle.json_text.specs.Compact.{array_text, object_text}
use Rattle.scene_json.proofs.CallerLemmas.{mapped-step}
use Rattle.elem.specs.ElementValue.{ElementValue}
use Rattle.elem.specs.Texts.{element_text}
use Rattle.library.specs.Items.{item_text, library_text}
use Rattle.library.specs.inner.Printing.{name_text, status_text, text_before_name}
use Rattle.library.specs.declared.item.Item.{Item}

-- ---- an item
abbrev opened : List ℕ
opened = codes ",\"elements\":["

abbrev texts : List ElementValue → List ℕ
texts elements = join_with_byte 44 (map element_text elements)

-- what is appended for an item without a name, and for one with a name, is the object of its members
without_name : (a i s c t o e : List ℕ) → (a ++ (i ++ (s ++ (c ++ t)))) ++ (o ++ (e ++ 93 ∷ 125 ∷ [])) ≡ a
    ++ ((i ++ (s ++ (c ++ (t ++ (o ++ (e ++ 93 ∷ [])))))) ++ 125 ∷ [])
without_name a i s c t o e = simp append_assoc

with_name : (a i s c t n name o e : List ℕ) → (a ++ (i ++ (s ++ (c ++ t))))
    ++ ((n ++ name) ++ (o ++ (e ++ 93 ∷ 125 ∷ []))) ≡ a
    ++ ((i ++ (s ++ (c ++ (t ++ (n ++ (name ++ (o ++ (e ++ 93 ∷ [])))))))) ++ 125 ∷ [])
with_name a i s c t n name o e = simp append_assoc

item-parts : (id : List ℕ) (published : Bool) (created : ℕ) (name : Option (List ℕ)) (elements : List ElementValue) →
    text_before_name id published created ++ (name_text name ++ (opened ++ (texts elements ++ codes "]}")))
    ≡ item_text (record { id = id; published = published; created = created; name = name; elements = elements })
unfolding item_text object_text array_text quote
item-parts id true created None elements =
    without_name (codes "{\"id\":") (quote id) (status_text true) (codes ",\"created\":") (decimal created) opened
    (texts elements)
item-parts id false created None elements =
    without_name (codes "{\"id\":") (quote id) (status_text false) (codes ",\"created\":") (decimal created) opened
    (texts elements)
item-parts id true created (Some name) elements =
    with_name (codes "{\"id\":") (quote id) (status_text true) (codes ",\"created\":") (decimal created)
    (codes ",\"name\":") (quote name) opened (texts elements)
item-parts id false created (Some name) elements =
    with_name (codes "{\"id\":") (quote id) (status_text false) (codes ",\"created\":") (decimal created)
    (codes ",\"name\":") (quote name) opened (texts elements)

-- the parts that are appended one after the other
pub item-written : (item : Item) (old first second third fourth fifth : List ℕ)
    → first ≡ old ++ text_before_name item.id item.published item.created → second ≡ first ++ name_text item.name
    → third ≡ second ++ opened → fourth ≡ third ++ texts item.elements → fifth ≡ fourth ++ codes "]}"
    → fifth ≡ old ++ item_text item
item-written item old first second third fourth fifth one two next more last =
    let front = text_before_name item.id item.published item.created in
    let name = name_text item.name in
    let all : fifth ≡ old ++ (front ++ (name ++ (opened ++ (texts item.elements ++ codes "]}")))) =
    rw (last, more, next, two, one) (simp append_assoc) in
    all ∙ ap (λ text. old ++ text) (item-parts item.id item.published item.created item.name item.elements)

-- ---- a library
library-parts : (items : List Item) → codes "{\"type\":\"excalidrawlib\",\"version\":2,\"libraryItems\":["
    ++ (join_with_byte 44 (map item_text items) ++ codes "]}") ≡ library_text items
unfolding library_text object_text array_text quote digits
library-parts items =
    ap (λ text. codes "{\"type\":\"excalidrawlib\",\"version\":2,\"libraryItems\":[" ++ text)
    (sym (append_assoc (join_with_byte 44 (map item_text items)) (93 ∷ []) (125 ∷ [])))

pub library-written : (items : List Item) (old first second third : List ℕ) → old ≡ []
    → first ≡ old ++ codes "{\"type\":\"excalidrawlib\",\"version\":2,\"libraryItems\":["
    → second ≡ first ++ join_with_byte 44 (map item_text items) → third ≡ second ++ codes "]}"
    → third ≡ library_text items
library-written items old first second third none one two last =
    let front = codes "{\"type\":\"excalidrawlib\",\"version\":2,\"libraryItems\":[" in
    let own : first ≡ front = one ∙ ap (λ o. o ++ front) none in
    last ∙ ap (λ x. x ++ codes "]}") (two ∙ ap (λ x. x ++ join_with_byte 44 (map item_text items)) own)
    ∙ append_assoc front (join_with_byte 44 (map item_text items)) (codes "]}") ∙ library-parts items

-- ---- the items of a library, one after the other
-- one turn over the items that are left
pub item-turn : (items : List Item) (item : Item) (i j : ℕ) (left next : List Item) (start out comma done : List ℕ)
    → left ≡ drop i items → left ≡ item ∷ next → j ≡ i
    → out ≡ start ++ join_with_byte 44 (map item_text (take i items)) → ((0 < j) × (comma ≡ out ++ 44 ∷ []))
    ⊎ ((j ≡ 0) × (comma ≡ out)) → done ≡ comma ++ item_text item
    → (done ≡ start ++ join_with_byte 44 (map item_text (take (i + 1) items))) × (next ≡ drop (i + 1) items)
item-turn items item i j left next start out comma done rest first same made between last =
    let ahead : drop i items ≡ item ∷ next = sym rest ∙ first in
    let within : i < length items = omega (arith, ap length ahead, length-drop i items) in
    let parts : (item ∷ next) ≡ (get_or items i item ∷ drop (i + 1) items) =
    sym ahead ∙ drop_more items i item within in
    let head : item ≡ get_or items i item = cc in
    let tail : next ≡ drop (i + 1) items = cc in (
      mapped-step item_text start items item i out comma done within head made
          (subst (λ n. ((0 < n) × (comma ≡ out ++ 44 ∷ [])) ⊎ ((n ≡ 0) × (comma ≡ out))) same between) last,
      tail,
    )

-- and the end, where none is left
pub items-through : (items : List Item) (i : ℕ) (left : List Item) (start out : List ℕ) → left ≡ drop i items
    → left ≡ [] → out ≡ start ++ join_with_byte 44 (map item_text (take i items))
    → out ≡ start ++ join_with_byte 44 (map item_text items)
items-through items i left start out rest none made =
    let past : length items ≤ i = omega (arith, ap length (sym rest ∙ none), length-drop i items) in
    made ∙ ap (λ xs. start ++ join_with_byte 44 (map item_text xs)) (take_all i items past)
