-- Reading the text of an item gives the item, and reading the text of a library gives its items.
use Rattle.std.proofs.Common.{◌≡◌, ℕ, ◌≤◌, suc, List, [], ◌∷◌, Bool, true, false, Option, Some, None, All, codes, map, refl, sym, ap, subst, inl, inr, arith, lit≤, IsUtf8}
use Rattle.std.specs.Cmp.Lexicographic.{nat_list_eq_equiv}
use Rattle.std.specs.List.{AllByRecursion}
use Rattle.std.proofs.lemmas.List.Elements.{All-cons, All-head, All-tail}
use Rattle.std.proofs.lemmas.Map.Made.{IsDistinct-from_count}
use Rattle.json_text.specs.Characters.{quote}
use Rattle.json_text.specs.Compact.{array_text}
use Rattle.json_text.specs.Parts.{AreMembers}
use Rattle.json_text.specs.Value.{IsCompact}
use Rattle.json_text.proofs.CallerLemmas.{Value-deeper, array-compact, decimal_nests, object-compact, quote-compact, ascii-utf8}
use Rattle.scene_json.specs.Named.{value_at}
use Rattle.elem.specs.ElementValue.{ElementValue}
use Rattle.elem.specs.Facts.{greatest_whole}
use Rattle.elem.specs.Forms.{IsTextOrNull}
use Rattle.elem.specs.Order.{HaveDistinctIds}
use Rattle.elem.specs.Texts.{element_text}
use Rattle.elem.proofs.CallerLemmas.{AreMembers-deeper}
use Rattle.elem_read.specs.Reading.{IsWholeElement}
use Rattle.clips.specs.Placed.{elements_in, first_repeat, AreReadFrom}
use Rattle.clips.proofs.CallerLemmas.{placed-whole, repeat-none}
use Rattle.library.specs.Inserting.{placed_from}
use Rattle.library.specs.Items.{item_members, item_text, library_members, library_text, status_word}
use Rattle.library.specs.Reading.{AreItemsIn, IsArray, IsItemIn, IsItemOf, IsLibraryOf, IsStatus, IsTime, IsWholeItem}
use Rattle.library.specs.declared.item.Item.{Item}

-- ---- elements
pub elements-placed : (place : ℕ) (elements : List ElementValue) → elements ≡ elements_in (placed_from place elements)
elements-placed place [] = refl
elements-placed place (e ∷ elements) = ap (λ es. e ∷ es) (elements-placed (suc place) elements)

-- the texts of whole elements are read as these, each at its place
pub texts-placed : (place : ℕ) (elements : List ElementValue) → All IsWholeElement elements
    → AreReadFrom place (map element_text elements) (placed_from place elements)
texts-placed place [] whole = refl
texts-placed place (e ∷ elements) whole =
    inr (
      record { place = place; element = e },
      placed_from (suc place) elements,
      refl,
      refl,
      All-head IsWholeElement e elements whole,
      texts-placed (suc place) elements (All-tail IsWholeElement e elements whole),
    )

texts-nest : (limit : ℕ) → 120 ≤ limit → (elements : List ElementValue) → All IsWholeElement elements
    → AllByRecursion (IsCompact limit) (map element_text elements)
texts-nest limit deep [] whole = tt
texts-nest limit deep (e ∷ elements) whole = (
  Value-deeper deep (All-head IsWholeElement e elements whole).shallow,
  texts-nest limit deep elements (All-tail IsWholeElement e elements whole),
)

pub texts-array : (elements : List ElementValue) → All IsWholeElement elements
    → IsArray (Some (array_text (map element_text elements))) (map element_text elements)
texts-array elements whole = (texts-nest 127 (lit≤ tt) elements whole, refl)

pub distinct-placed : (elements : List ElementValue) → HaveDistinctIds elements
    → first_repeat (placed_from 0 elements) ≡ None
distinct-placed elements distinct =
    (repeat-none (placed_from 0 elements)).1 (subst HaveDistinctIds (elements-placed 0 elements) distinct)

-- ---- what is known of an item that is read
pub record IsSoundItem (item : Item) : Type 0 where
  pub id : IsUtf8 item.id
  pub named : item.id ≡ [] → ⊥
  pub created : item.created ≤ greatest_whole
  pub name : (name : List ℕ) → item.name ≡ Some name → IsUtf8 name
  pub whole : All IsWholeElement item.elements
  pub distinct : HaveDistinctIds item.elements

sound-time : (found : Option (List ℕ)) (time : ℕ) → IsTime found time → time ≤ greatest_whole
sound-time found time (inl (null, e)) = omega (arith, e)
sound-time found time (inr is) = is.0

sound-name : (found name : Option (List ℕ)) → IsTextOrNull found name → (text : List ℕ) → name ≡ Some text → IsUtf8 text
sound-name found None is text e = absurd cc
sound-name found (Some name) is text e = let same : name ≡ text = cc in subst IsUtf8 same is.0

pub item-sound : (value : List ℕ) (item : Item) → IsItemIn value item → IsSoundItem item
item-sound value item is =
    let says = is.says in
    let elements = says.elements in record {
      id = says.id.0.0;
      named = says.id.1;
      created = sound-time (value_at (codes "created") is.members) item.created says.created;
      name = sound-name (value_at (codes "name") is.members) item.name says.name;
      whole = subst (All IsWholeElement) (sym elements.elements_are)
          (placed-whole says.values elements.placed elements.read);
      distinct = subst HaveDistinctIds (sym elements.elements_are) ((repeat-none elements.placed).0 elements.distinct);
    }

-- ---- the members of an item's text
word-utf8 : (published : Bool) → IsUtf8 (status_word published)
word-utf8 true = ascii-utf8 (codes "published") refl
word-utf8 false = ascii-utf8 (codes "unpublished") refl

pub elements-compact : (elements : List ElementValue) → All IsWholeElement elements
    → IsCompact 121 (array_text (map element_text elements))
elements-compact elements whole =
    array-compact 120 (map element_text elements) (texts-nest 120 (lit≤ tt) elements whole)

members-are : (id : List ℕ) (published : Bool) (created : ℕ) (name : Option (List ℕ)) (elements : List ElementValue)
    → IsSoundItem (record { id = id; published = published; created = created; name = name; elements = elements })
    → AreMembers 121 (item_members (record {
      id = id;
      published = published;
      created = created;
      name = name;
      elements =
          elements;
    }))
members-are id published created None elements is = record {
  named = (
    ascii-utf8 (codes "id") refl,
    (
      ascii-utf8 (codes "status") refl,
      (ascii-utf8 (codes "created") refl, (ascii-utf8 (codes "elements") refl, tt)),
    ),
  );
  valued = (
    quote-compact 121 id is.id,
    (
      quote-compact 121 (status_word published) (word-utf8 published),
      (decimal_nests 121 created (omega (arith, is.created)), (elements-compact elements is.whole, tt)),
    ),
  );
  distinct = IsDistinct-from_count nat_list_eq_equiv _ refl;
}
members-are id published created (Some name) elements is = record {
  named = (
    ascii-utf8 (codes "id") refl,
    (
      ascii-utf8 (codes "status") refl,
      (ascii-utf8 (codes "created") refl, (ascii-utf8 (codes "name") refl, (ascii-utf8 (codes "elements") refl, tt))),
    ),
  );
  valued = (
    quote-compact 121 id is.id,
    (
      quote-compact 121 (status_word published) (word-utf8 published),
      (
        decimal_nests 121 created (omega (arith, is.created)),
        (quote-compact 121 name (is.name name refl), (elements-compact elements is.whole, tt)),
      ),
    ),
  );
  distinct = IsDistinct-from_count nat_list_eq_equiv _ refl;
}

word-said : (published : Bool) → IsStatus (Some (quote (status_word published))) published
word-said true = refl
word-said false = inr refl

members-say : (id : List ℕ) (published : Bool) (created : ℕ) (name : Option (List ℕ)) (elements : List ElementValue)
    → IsSoundItem (record { id = id; published = published; created = created; name = name; elements = elements })
    → IsItemOf (item_members (record {
      id = id;
      published = published;
      created = created;
      name = name;
      elements =
          elements;
    })) (record { id = id; published = published; created = created; name = name; elements = elements })
members-say id published created None elements is = record {
  id = ((is.id, refl), is.named);
  status = word-said published;
  created = inr (is.created, refl);
  name = inl refl;
  values = map element_text elements;
  array = texts-array elements is.whole;
  elements = record {
    placed = placed_from 0 elements;
    read = texts-placed 0 elements is.whole;
    distinct =
        distinct-placed elements is.distinct;
    elements_are = elements-placed 0 elements;
  };
}
members-say id published created (Some name) elements is = record {
  id = ((is.id, refl), is.named);
  status = word-said published;
  created = inr (is.created, refl);
  name = (is.name name refl, refl);
  values = map element_text elements;
  array = texts-array elements is.whole;
  elements = record {
    placed = placed_from 0 elements;
    read = texts-placed 0 elements is.whole;
    distinct =
        distinct-placed elements is.distinct;
    elements_are = elements-placed 0 elements;
  };
}

-- a sound item is whole
sound-whole : (item : Item) → IsSoundItem item → IsWholeItem item
unfolding item_text
sound-whole item is = record {
  members = item_members item;
  object =
      record {
        are_members = AreMembers-deeper 121 127 (item_members item) (lit≤ tt)
            (members-are item.id item.published item.created item.name item.elements is);
        spelled = refl;
      };
  says = members-say item.id item.published item.created item.name item.elements is;
}

-- Reading the text of an item that was read gives that item.
pub item-whole : (value : List ℕ) (item : Item) → IsItemIn value item → IsWholeItem item
item-whole value item is = sound-whole item (item-sound value item is)

pub items-whole : (values : List (List ℕ)) (items : List Item) → AreItemsIn values items → All IsWholeItem items
items-whole [] items read = subst (All IsWholeItem) (sym read) (λ k d l. absurd (omega arith))
items-whole (value ∷ values) items (item, others, all, is, read) =
    subst (All IsWholeItem) (sym all) (All-cons IsWholeItem item others (item-whole value item is)
    (items-whole values others read))

item-compact : (item : Item) → IsWholeItem item → IsCompact 122 (item_text item)
unfolding item_text
item-compact item whole =
    object-compact 121 (item_members item) (members-are item.id item.published item.created item.name item.elements
    (item-sound (item_text item) item whole))

-- ---- a library
items-nest : (limit : ℕ) → 122 ≤ limit → (items : List Item) → All IsWholeItem items
    → AllByRecursion (IsCompact limit) (map item_text items)
items-nest limit deep [] whole = tt
items-nest limit deep (item ∷ items) whole = (
  Value-deeper deep (item-compact item (All-head IsWholeItem item items whole)),
  items-nest limit deep items (All-tail IsWholeItem item items whole),
)

items-read : (items : List Item) → All IsWholeItem items → AreItemsIn (map item_text items) items
items-read [] whole = refl
items-read (item ∷ items) whole =
    (item, items, refl, All-head IsWholeItem item items whole, items-read items (All-tail IsWholeItem item items whole))

library-are : (items : List Item) → All IsWholeItem items → AreMembers 127 (library_members items)
library-are items whole = record {
  named = (
    ascii-utf8 (codes "type") refl,
    (ascii-utf8 (codes "version") refl, (ascii-utf8 (codes "libraryItems") refl, tt)),
  );
  valued = (
    quote-compact 127 (codes "excalidrawlib") (ascii-utf8 (codes "excalidrawlib") refl),
    (
      decimal_nests 127 2 (omega arith),
      (Value-deeper (lit≤ tt) (array-compact 122 (map item_text items) (items-nest 122 (lit≤ tt) items whole)), tt),
    ),
  );
  distinct = IsDistinct-from_count nat_list_eq_equiv _ refl;
}

-- The text of a library of whole items is read as these.
pub library-back : (items : List Item) → All IsWholeItem items → IsLibraryOf (library_text items) items
unfolding library_text
library-back items whole = record {
  members = library_members items;
  object = record { are_members = library-are items whole; spelled = refl };
  kind = (ascii-utf8 (codes "excalidrawlib") refl, refl);
  values = map item_text items;
  array = (items-nest 127 (lit≤ tt) items whole, refl);
  read = items-read items whole;
}

pub library-compact : (items : List Item) → All IsWholeItem items → IsCompact 128 (library_text items)
unfolding library_text
library-compact items whole = object-compact 127 (library_members items) (library-are items whole)
