-- Each compact text is that of a library, or has a first fault.
use Rattle.std.proofs.Common.{◌≡◌, ◌⊎◌, inl, inr, ℕ, suc, List, [], ◌∷◌, Bool, Option, Some, None, codes, refl, lit≤}
use Rattle.std.specs.List.{AllByRecursion}
use Rattle.json_text.specs.Compact.{Member as Pair}
use Rattle.json_text.specs.Parts.{AreMembers}
use Rattle.json_text.specs.Value.{IsCompact}
use Rattle.json_text.proofs.CallerLemmas.{Value-deeper, object-or-not}
use Rattle.scene_json.specs.Named.{value_at}
use Rattle.elem.specs.Forms.{IsId, IsObject, IsTextOrNull}
use Rattle.elem_read.proofs.CallerLemmas.{Decided, fits-in, read-or-faulty, id-or-not, text_or_null-or-not}
use Rattle.elem.specs.ElementValue.{ElementValue}
use Rattle.scene_file.proofs.CallerLemmas.{is-text}
use Rattle.clips.specs.Placed.{elements_in, first_repeat, AreReadFrom}
use Rattle.clips.specs.declared.placed.Placed.{Placed}
use Rattle.clips.proofs.CallerLemmas.{placed-of}
use Rattle.library.specs.Reading.{AreElementsOf, AreItemsIn, IsArray, IsElementsFault, IsFirst, IsFirstFaultyItem, IsItemFault, IsItemIn, IsItemOf, IsLibFault, IsLibraryOf, IsStatus, IsTime}
use Rattle.library.specs.declared.fault.ItemFault.{ItemFault}
use Rattle.library.specs.declared.fault.ItemFault.TheVariants as item
use Rattle.library.specs.declared.fault.LibFault.{LibFault}
use Rattle.library.specs.declared.fault.LibFault.TheVariants as library
use Rattle.library.specs.declared.item.Item.{Item}
use Rattle.library.proofs.ItemForms.{array_of-or-not, status-or-not, time-or-not}
use Rattle.library.proofs.ItemOnce.{first-among, first-created, first-elements, first-id, first-name, first-status, members-fault}

-- ---- elements
abbrev ElementsTold : List (List ℕ) → Type 0
ElementsTold values = ((elements : List ElementValue) × AreElementsOf values elements)
    ⊎ ((fault : ItemFault) × IsElementsFault values fault)

elements-or-fault : (values : List (List ℕ)) → AllByRecursion (IsCompact 127) values → ElementsTold values
elements-or-fault values all = elim (read-or-faulty values all) [
  | inr (place, fault, faulty) ↦ inr (item.Element place fault, faulty)
  | inl (elements, read) ↦ let placed =
      placed-of 0 values elements read in by placed.0 placed.1 (first_repeat placed.0) refl
]
  where
    by : (placed : List Placed) → AreReadFrom 0 values placed → (o : Option ℕ) → first_repeat placed ≡ o
        → ElementsTold values
    by placed read None none =
        inl (elements_in placed, record { placed = placed; read = read; distinct = none; elements_are = refl })
    by placed read (Some place) again = inr (item.Repeated place, (placed, read, again))

-- ---- items
abbrev MembersTold : List Pair → Type 0
MembersTold ms = ((item : Item) × IsItemOf ms item) ⊎ ((fault : ItemFault) × IsFirst ms fault)

members-or-fault : (ms : List Pair) → AreMembers 127 ms → MembersTold ms
members-or-fault ms are =
    by-id (id-or-not (value_at (codes "id") ms) (fits-in 127 ms (lit≤ tt) are (codes "id")))
  where
    by-elements : (id : List ℕ) → IsId (value_at (codes "id") ms) id → (published : Bool)
        → IsStatus (value_at (codes "status") ms) published → (created : ℕ)
        → IsTime (value_at (codes "created") ms) created
        → (name : Option (List ℕ)) → IsTextOrNull (value_at (codes "name") ms) name
        → Decided (IsArray (value_at (codes "elements") ms)) → MembersTold ms
    by-elements id i published s created t name n (inr none) =
        inr (item.Elements, first-elements ms id i published s created t name n none)
    by-elements id i published s created t name n (inl (values, array)) = elim (elements-or-fault values array.0) [
      | inl (elements, are) ↦ inl (
        record { id = id; published = published; created = created; name = name; elements = elements },
        record { id = i; status = s; created = t; name = n; values = values; array = array; elements = are },
      )
      | inr (fault, f) ↦ inr (fault, first-among ms id i published s created t name n values array fault f)
    ]

    by-name : (id : List ℕ) → IsId (value_at (codes "id") ms) id → (published : Bool)
        → IsStatus (value_at (codes "status") ms) published → (created : ℕ)
        → IsTime (value_at (codes "created") ms) created
        → Decided (IsTextOrNull (value_at (codes "name") ms)) → MembersTold ms
    by-name id i published s created t (inr none) = inr (item.Name, first-name ms id i published s created t none)
    by-name id i published s created t (inl (name, n)) =
        by-elements id i published s created t name n
        (array_of-or-not (value_at (codes "elements") ms) (fits-in 127 ms (lit≤ tt) are (codes "elements")))

    by-created : (id : List ℕ) → IsId (value_at (codes "id") ms) id → (published : Bool)
        → IsStatus (value_at (codes "status") ms) published → Decided (IsTime (value_at (codes "created") ms))
        → MembersTold ms
    by-created id i published s (inr none) = inr (item.Created, first-created ms id i published s none)
    by-created id i published s (inl (created, t)) =
        by-name id i published s created t
        (text_or_null-or-not (value_at (codes "name") ms) (fits-in 127 ms (lit≤ tt) are (codes "name")))

    by-status : (id : List ℕ) → IsId (value_at (codes "id") ms) id → Decided (IsStatus (value_at (codes "status") ms))
        → MembersTold ms
    by-status id i (inr none) = inr (item.Status, first-status ms id i none)
    by-status id i (inl (published, s)) =
        by-created id i published s (time-or-not (value_at (codes "created") ms)
        (fits-in 127 ms (lit≤ tt) are (codes "created")))

    by-id : Decided (IsId (value_at (codes "id") ms)) → MembersTold ms
    by-id (inr none) = inr (item.Id, first-id ms none)
    by-id (inl (id, i)) =
        by-status id i (status-or-not (value_at (codes "status") ms) (fits-in 127 ms (lit≤ tt) are (codes "status")))

item-or-fault : (value : List ℕ) → IsCompact 128 value → ((item : Item) × IsItemIn value item)
    ⊎ ((fault : ItemFault) × IsItemFault value fault)
item-or-fault value is = elim (object-or-not value is) [
  | inr none ↦ inr (item.NotObject, λ ms object. none ms object.spelled)
  | inl (ms, are, e) ↦ let object : IsObject value ms =
      record { are_members = are; spelled = e } in elim (members-or-fault ms are) [
        | inl (item, says) ↦ inl (item, record { members = ms; object = object; says = says })
        | inr (fault, first) ↦ inr (fault, members-fault value ms fault object first)
      ]
]

items-or-fault : (values : List (List ℕ)) → AllByRecursion (IsCompact 127) values
    → ((items : List Item) × AreItemsIn values items)
    ⊎ ((place : ℕ) × (fault : ItemFault) × IsFirstFaultyItem values place fault)
items-or-fault [] all = inl ([], refl)
items-or-fault (value ∷ values) all = elim (item-or-fault value (Value-deeper (lit≤ tt) all.0)) [
  | inr (fault, f) ↦ inr (0, fault, f)
  | inl (item, is) ↦ elim (items-or-fault values all.1) [
    | inl (items, read) ↦ inl (item ∷ items, (item, items, refl, is, read))
    | inr (place, fault, f) ↦ inr (suc place, fault, ((item, is), f))
  ]
]

-- ---- libraries
pub library-or-fault : (text : List ℕ) → IsCompact 128 text → ((items : List Item) × IsLibraryOf text items)
    ⊎ ((fault : LibFault) × IsLibFault text fault)
library-or-fault text is = elim (object-or-not text is) [
  | inr none ↦ inr (library.NotObject, λ ms object. none ms object.spelled)
  | inl (ms, are, e) ↦ let object : IsObject text ms = record { are_members = are; spelled = e } in
      elim (is-text (value_at (codes "type") ms) (codes "excalidrawlib")
      (fits-in 127 ms (lit≤ tt) are (codes "type"))) [
        | inr none ↦ inr (library.NotLibrary, (ms, object, none))
        | inl kind ↦ elim (array_of-or-not (value_at (codes "libraryItems") ms)
            (fits-in 127 ms (lit≤ tt) are (codes "libraryItems"))) [
              | inr none ↦ inr (library.Items, (ms, object, kind, none))
              | inl (values, array) ↦ elim (items-or-fault values array.0) [
                | inl (items, read) ↦ inl (
                  items,
                  record {
                    members = ms;
                    object = object;
                    kind = kind;
                    values = values;
                    array = array;
                    read = read;
                  },
                )
                | inr (place, fault, f) ↦ inr (library.Item place fault, (ms, values, object, kind, array, f))
              ]
            ]
      ]
]
