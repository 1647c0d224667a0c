-- A text is that of one library at most, or has one first fault.
use Rattle.std.proofs.Common.{◌≡◌, ℕ, zero, suc, List, [], ◌∷◌, codes, refl, sym, ap, ap₂, subst, ◌∙◌}
use Rattle.json_text.specs.Compact.{Member as Pair}
use Rattle.scene_json.specs.Named.{value_at}
use Rattle.elem.specs.Forms.{IsObject}
use Rattle.elem.proofs.CallerLemmas.{members-once}
use Rattle.clips.proofs.CallerLemmas.{Asked, asked-none, asked-once, no, yes}
use Rattle.library.specs.Reading.{AreItemsIn, IsArray, IsFirstFaultyItem, IsLibFault, IsLibrary, IsLibraryOf}
use Rattle.library.specs.declared.fault.ItemFault.{ItemFault}
use Rattle.library.specs.declared.fault.LibFault.{LibFault}
use Rattle.library.specs.declared.fault.LibFault.TheVariants.{NotObject, NotLibrary, Items, Item as InItem}
use Rattle.library.specs.declared.item.Item.{Item}
use Rattle.library.proofs.ItemForms.{array_of-once}
use Rattle.library.proofs.ItemOnce.{item-faultless, item-once, item_fault-once}

-- ---- items
pub items-once : (values : List (List ℕ)) (items others : List Item) → AreItemsIn values items
    → AreItemsIn values others → items ≡ others
items-once [] items others one two = one ∙ sym two
items-once (value ∷ values) items others (item, more, all, is, read) (item', more', all', is', read') =
    all ∙ (ap₂ (λ x xs. x ∷ xs) (item-once value item item' is is') (items-once values more more' read read')
    ∙ sym all')

faulty_item-once : (values : List (List ℕ)) (place other : ℕ) (fault why : ItemFault)
    → IsFirstFaultyItem values place fault → IsFirstFaultyItem values other why → (place ≡ other) × (fault ≡ why)
faulty_item-once [] place other fault why f g = absurd f
faulty_item-once (value ∷ values) zero zero fault why f g = (refl, item_fault-once value fault why f g)
faulty_item-once (value ∷ values) zero (suc other) fault why f ((item, is), g) =
    absurd (item-faultless value item fault is f)
faulty_item-once (value ∷ values) (suc place) zero fault why ((item, is), f) g =
    absurd (item-faultless value item why is g)
faulty_item-once (value ∷ values) (suc place) (suc other) fault why (first, f) (second, g) =
    let both = faulty_item-once values place other fault why f g in (ap (λ n. suc n) both.0, both.1)

items-faultless : (values : List (List ℕ)) (items : List Item) (place : ℕ) (fault : ItemFault) → AreItemsIn values items
    → IsFirstFaultyItem values place fault → ⊥
items-faultless [] items place fault read f = f
items-faultless (value ∷ values) items zero fault (item, more, all, is, read) f = item-faultless value item fault is f
items-faultless (value ∷ values) items (suc place) fault (item, more, all, is, read) (first, f) =
    items-faultless values more place fault read f

-- ---- libraries
pub library-once : (text : List ℕ) (items others : List Item) → IsLibraryOf text items → IsLibraryOf text others
    → items ≡ others
library-once text items others one two =
    let members = members-once text two.members one.members two.object one.object in
    let values = array_of-once (value_at (codes "libraryItems") one.members) two.values one.values
    (subst (λ ms. IsArray (value_at (codes "libraryItems") ms) two.values) members two.array) one.array in
    items-once one.values items others one.read (subst (λ vs. AreItemsIn vs others) values two.read)

-- ---- faults
-- the questions in their order
abbrev Ending : List (List ℕ) → LibFault → Type 0
Ending values fault = (place : ℕ) × (why : ItemFault) × (fault ≡ InItem place why) × IsFirstFaultyItem values place why

abbrev HasArray : List Pair → Type 0
HasArray members = (values : List (List ℕ)) × IsArray (value_at (codes "libraryItems") members) values

abbrev EndsIn : List Pair → LibFault → Type 0
EndsIn members fault =
    (values : List (List ℕ)) × IsArray (value_at (codes "libraryItems") members) values × Ending values fault

abbrev Second : List Pair → LibFault → Type 0
Second members fault = Asked (HasArray members) Items (EndsIn members) fault

abbrev First : List Pair → LibFault → Type 0
First members fault = Asked (IsLibrary members) NotLibrary (Second members) fault

abbrev OfObject : List ℕ → LibFault → Type 0
OfObject text fault = (members : List Pair) × IsObject text members × First members fault

abbrev HasObject : List ℕ → Type 0
HasObject text = (members : List Pair) × IsObject text members

abbrev OfText : List ℕ → LibFault → Type 0
OfText text fault = Asked (HasObject text) NotObject (OfObject text) fault

of-text : (text : List ℕ) (fault : LibFault) → IsLibFault text fault → OfText text fault
of-text text NotObject lacks = no refl (λ has. lacks has.0 has.1)
of-text text NotLibrary (ms, is, lacks) = yes (ms, is) (ms, is, no refl lacks)
of-text text Items (ms, is, kind, lacks) = yes (ms, is) (ms, is, yes kind (no refl (λ has. lacks has.0 has.1)))
of-text text (InItem place why) (ms, vs, is, kind, array, f) =
    yes (ms, is) (ms, is, yes kind (yes (vs, array) (vs, array, (place, why, refl, f))))

ending-once : (values : List (List ℕ)) (fault other : LibFault) → Ending values fault → Ending values other
    → fault ≡ other
ending-once values fault other (place, why, e, f) (place', why', e', g) =
    let both = faulty_item-once values place place' why why' f g in
    e ∙ (ap₂ in_item both.0 both.1 ∙ sym e')
  where
    in_item : ℕ → ItemFault → LibFault
    in_item p w = InItem p w

ends-once : (members : List Pair) (fault other : LibFault) → EndsIn members fault → EndsIn members other → fault ≡ other
ends-once members fault other one two =
    ending-once one.0 fault other one.2
    (subst (λ vs. Ending vs other) (array_of-once (value_at (codes "libraryItems") members) two.0 one.0 two.1 one.1)
    two.2)

first-once : (members : List Pair) (fault other : LibFault) → First members fault → First members other → fault ≡ other
first-once members fault other =
    asked-once (IsLibrary members) NotLibrary (Second members) fault other
    (asked-once (HasArray members) Items (EndsIn members) fault other (ends-once members fault other))

pub lib_fault-once : (text : List ℕ) (fault other : LibFault) → IsLibFault text fault → IsLibFault text other
    → fault ≡ other
lib_fault-once text fault other one two =
    asked-once (HasObject text) NotObject (OfObject text) fault other
    (λ a b. first-once a.0 fault other a.2 (subst (λ ms. First ms other) (members-once text b.0 a.0 b.1 a.1) b.2))
    (of-text text fault one) (of-text text other two)

module _ (text : List ℕ) (items : List Item) (is : IsLibraryOf text items) where
  no-end : (fault : LibFault) → EndsIn is.members fault → ⊥
  no-end fault (values, array, (place, why, e, f)) =
      items-faultless is.values items place why is.read
      (subst (λ vs. IsFirstFaultyItem vs place why) (array_of-once (value_at (codes "libraryItems") is.members) values
      is.values array is.array) f)

  no-first : (fault : LibFault) → First is.members fault → ⊥
  no-first fault =
      asked-none (IsLibrary is.members) NotLibrary (Second is.members) fault is.kind
      (asked-none (HasArray is.members) Items (EndsIn is.members) fault (is.values, is.array) (no-end fault))

  pub library-faultless : (fault : LibFault) → IsLibFault text fault → ⊥
  library-faultless fault f =
      asked-none (HasObject text) NotObject (OfObject text) fault (is.members, is.object)
      (λ o. no-first fault (subst (λ ms. First ms fault) (members-once text o.0 is.members o.1 is.object) o.2))
      (of-text text fault f)
