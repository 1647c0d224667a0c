-- A value says one item at most, or has one first fault.
use Rattle.std.proofs.Common.{◌≡◌, ◌⊎◌, ℕ, ◌<◌, List, Bool, Option, Some, None, codes, refl, sym, ap, ap₂, subst, ◌∙◌, inl, inr, arith}
use Rattle.std.proofs.lemmas.Bool.{cases_order}
use Rattle.std.proofs.lemmas.Option.{same_Some}
use Rattle.json_text.specs.Compact.{Member as Pair}
use Rattle.scene_json.specs.Named.{value_at}
use Rattle.elem.specs.ElementValue.{ElementValue}
use Rattle.elem.specs.Forms.{IsId, IsObject, IsTextOrNull}
use Rattle.elem.proofs.CallerLemmas.{members-once, text-once, text_or_null-once}
use Rattle.elem_read.specs.Elements.{IsFirstFaulty}
use Rattle.elem_read.specs.declared.fault.ElemFault.{ElemFault}
use Rattle.elem_read.proofs.CallerLemmas.{faulty-once}
use Rattle.clips.specs.Placed.{elements_in, first_repeat, AreReadFrom}
use Rattle.clips.proofs.CallerLemmas.{placed-faultless, placed-once}
use Rattle.library.specs.Reading.{place_of, AreElementsOf, Fails, IsArray, IsElementsFault, IsFirst, IsItemFault, IsItemIn, IsItemOf, IsStatus, IsTime}
use Rattle.library.specs.declared.fault.ItemFault.{ItemFault}
use Rattle.library.specs.declared.fault.ItemFault.TheVariants.{NotObject, Id, Status, Created, Name, Elements, Element, Repeated}
use Rattle.library.specs.declared.item.Item.{Item}
use Rattle.library.proofs.ItemForms.{array_of-once, status-once, time-once}

-- ---- items
elements-once : (values : List (List ℕ)) (xs ys : List ElementValue) → AreElementsOf values xs → AreElementsOf values ys
    → xs ≡ ys
elements-once values xs ys one two =
    one.elements_are ∙ (ap elements_in (placed-once 0 values one.placed two.placed one.read two.read)
    ∙ sym two.elements_are)

item_of-once : (ms : List Pair) (item other : Item) → IsItemOf ms item → IsItemOf ms other → item ≡ other
item_of-once ms item other one two =
    let id = text-once (value_at (codes "id") ms) item.id other.id one.id.0 two.id.0 in
    let published = status-once (value_at (codes "status") ms) item.published other.published one.status two.status in
    let created = time-once (value_at (codes "created") ms) item.created other.created one.created two.created in
    let name = text_or_null-once (value_at (codes "name") ms) item.name other.name one.name two.name in
    let values = array_of-once (value_at (codes "elements") ms) two.values one.values two.array one.array in
    let elements = elements-once one.values item.elements other.elements one.elements
    (subst (λ vs. AreElementsOf vs other.elements) values two.elements) in
    λ i. record { id = id i; published = published i; created = created i; name = name i; elements = elements i }

pub item-once : (value : List ℕ) (item other : Item) → IsItemIn value item → IsItemIn value other → item ≡ other
item-once value item other one two =
    item_of-once one.members item other one.says
    (subst (λ ms. IsItemOf ms other) (members-once value two.members one.members two.object one.object) two.says)

-- ---- faults of elements
no-elements-fault : (values : List (List ℕ)) (elements : List ElementValue) (fault : ItemFault)
    → AreElementsOf values elements → IsElementsFault values fault → ⊥
no-elements-fault values elements NotObject are f = f
no-elements-fault values elements Id are f = f
no-elements-fault values elements Status are f = f
no-elements-fault values elements Created are f = f
no-elements-fault values elements Name are f = f
no-elements-fault values elements Elements are f = f
no-elements-fault values elements (Element place why) are f = placed-faultless values are.placed place why are.read f
no-elements-fault values elements (Repeated place) are (placed, read, again) =
    let none : Some place ≡ None =
    sym again ∙ (ap first_repeat (placed-once 0 values placed are.placed read are.read) ∙ are.distinct) in
    absurd cc

-- ---- first faults
module _ (ms : List Pair) where
  fails-none : (item : Item) → IsItemOf ms item → (fault : ItemFault) → Fails fault ms → ⊥
  fails-none item is NotObject f = f
  fails-none item is Id f = f item.id is.id
  fails-none item is Status f = f item.published is.status
  fails-none item is Created f = f item.created is.created
  fails-none item is Name f = f item.name is.name
  fails-none item is Elements f = f is.values is.array
  fails-none item is (Element place why) (values, array, f) =
      no-elements-fault is.values item.elements (Element place why) is.elements
      (subst (λ vs. IsFirstFaulty vs place why) (array_of-once (value_at (codes "elements") ms) values is.values array
      is.array) f)
  fails-none item is (Repeated place) (values, array, f) =
      no-elements-fault is.values item.elements (Repeated place) is.elements
      (subst (λ vs. IsElementsFault vs (Repeated place)) (array_of-once (value_at (codes "elements") ms) values
      is.values array is.array) f)

  -- two faults at one place of the order are one
  same_place : (fault other : ItemFault) → place_of fault ≡ place_of other → Fails fault ms → Fails other ms
      → fault ≡ other
  same_place NotObject NotObject e f g = refl
  same_place Id Id e f g = refl
  same_place Status Status e f g = refl
  same_place Created Created e f g = refl
  same_place Name Name e f g = refl
  same_place Elements Elements e f g = refl
  same_place (Element place why) (Element place' why') e (values, array, f) (others, also, g) =
      let same = array_of-once (value_at (codes "elements") ms) others values also array in
      let both = faulty-once values place place' why why' f (subst (λ vs. IsFirstFaulty vs place' why') same g) in
      ap₂ element both.0 both.1
    where
      element : ℕ → ElemFault → ItemFault
      element p w = Element p w
  same_place (Repeated place) (Repeated place') e (values, array, (placed, read, again)) (
    others,
    also,
    (rest, reads, agains),
  ) =
      let same = array_of-once (value_at (codes "elements") ms) others values also array in
      let one = placed-once 0 values placed rest read (subst (λ vs. AreReadFrom 0 vs rest) same reads) in
      ap repeated (same_Some place place' (sym again ∙ (ap first_repeat one ∙ agains)))
    where
      repeated : ℕ → ItemFault
      repeated p = Repeated p
  same_place fault other e f g = absurd (omega (arith, e))

  first-once : (fault other : ItemFault) → IsFirst ms fault → IsFirst ms other → fault ≡ other
  first-once fault other one two = elim (cases_order (place_of fault) (place_of other)) [
    | inl same ↦ same_place fault other same one.comes two.comes
    | inr unlike ↦ elim unlike [
      | inl less ↦ absurd (two.first fault less one.comes)
      | inr more ↦ absurd (one.first other more two.comes)
    ]
  ]

-- ---- first faults of values
-- the first fault of an object is that of its members
fault-members : (value : List ℕ) (ms : List Pair) (fault : ItemFault) → IsObject value ms → IsItemFault value fault
    → IsFirst ms fault
fault-members value ms NotObject object f = absurd (f ms object)
fault-members value ms Id object (ns, is, first) =
    subst (λ xs. IsFirst xs Id) (members-once value ns ms is object) first
fault-members value ms Status object (ns, is, first) =
    subst (λ xs. IsFirst xs Status) (members-once value ns ms is object) first
fault-members value ms Created object (ns, is, first) =
    subst (λ xs. IsFirst xs Created) (members-once value ns ms is object) first
fault-members value ms Name object (ns, is, first) =
    subst (λ xs. IsFirst xs Name) (members-once value ns ms is object) first
fault-members value ms Elements object (ns, is, first) =
    subst (λ xs. IsFirst xs Elements) (members-once value ns ms is object) first
fault-members value ms (Element place why) object (ns, is, first) =
    subst (λ xs. IsFirst xs (Element place why)) (members-once value ns ms is object) first
fault-members value ms (Repeated place) object (ns, is, first) =
    subst (λ xs. IsFirst xs (Repeated place)) (members-once value ns ms is object) first

-- and the other way round
pub members-fault : (value : List ℕ) (ms : List Pair) (fault : ItemFault) → IsObject value ms → IsFirst ms fault
    → IsItemFault value fault
members-fault value ms NotObject object first = absurd first.comes
members-fault value ms Id object first = (ms, object, first)
members-fault value ms Status object first = (ms, object, first)
members-fault value ms Created object first = (ms, object, first)
members-fault value ms Name object first = (ms, object, first)
members-fault value ms Elements object first = (ms, object, first)
members-fault value ms (Element place why) object first = (ms, object, first)
members-fault value ms (Repeated place) object first = (ms, object, first)

-- a value with a fault is an object, or has that fault
object-or-fault : (value : List ℕ) (fault : ItemFault) → IsItemFault value fault → (fault ≡ NotObject)
    ⊎ ((ms : List Pair) × IsObject value ms)
object-or-fault value NotObject f = inl refl
object-or-fault value Id f = inr (f.0, f.1)
object-or-fault value Status f = inr (f.0, f.1)
object-or-fault value Created f = inr (f.0, f.1)
object-or-fault value Name f = inr (f.0, f.1)
object-or-fault value Elements f = inr (f.0, f.1)
object-or-fault value (Element place why) f = inr (f.0, f.1)
object-or-fault value (Repeated place) f = inr (f.0, f.1)

pub item_fault-once : (value : List ℕ) (fault other : ItemFault) → IsItemFault value fault → IsItemFault value other
    → fault ≡ other
item_fault-once value fault other one two = by (object-or-fault value fault one) (object-or-fault value other two)
  where
    by : (fault ≡ NotObject) ⊎ ((ms : List Pair) × IsObject value ms) → (other ≡ NotObject)
        ⊎ ((ms : List Pair) × IsObject value ms) → fault ≡ other
    by (inr (ms, object)) more =
        first-once ms fault other (fault-members value ms fault object one) (fault-members value ms other object two)
    by (inl e) (inr (ms, object)) =
        first-once ms fault other (fault-members value ms fault object one) (fault-members value ms other object two)
    by (inl e) (inl f) = e ∙ sym f

pub item-faultless : (value : List ℕ) (item : Item) (fault : ItemFault) → IsItemIn value item → IsItemFault value fault
    → ⊥
item-faultless value item fault is f =
    let first = fault-members value is.members fault is.object f in
    fails-none is.members item is.says fault first.comes

-- ---- each fault where those before it don't come
module _ (ms : List Pair) where
  pub first-id : Fails Id ms → IsFirst ms Id
  first-id f = record { comes = f; first = before }
    where
      before : (other : ItemFault) → place_of other < 1 → Fails other ms → ⊥
      before NotObject l g = g
      before other l g = absurd (omega (arith, l))

  module _ (id : List ℕ) (has_id : IsId (value_at (codes "id") ms) id) where
    pub first-status : Fails Status ms → IsFirst ms Status
    first-status f = record { comes = f; first = before }
      where
        before : (other : ItemFault) → place_of other < 2 → Fails other ms → ⊥
        before NotObject l g = g
        before Id l g = g id has_id
        before other l g = absurd (omega (arith, l))

    module _ (published : Bool) (has_status : IsStatus (value_at (codes "status") ms) published) where
      pub first-created : Fails Created ms → IsFirst ms Created
      first-created f = record { comes = f; first = before }
        where
          before : (other : ItemFault) → place_of other < 3 → Fails other ms → ⊥
          before NotObject l g = g
          before Id l g = g id has_id
          before Status l g = g published has_status
          before other l g = absurd (omega (arith, l))

      module _ (created : ℕ) (has_created : IsTime (value_at (codes "created") ms) created) where
        pub first-name : Fails Name ms → IsFirst ms Name
        first-name f = record { comes = f; first = before }
          where
            before : (other : ItemFault) → place_of other < 4 → Fails other ms → ⊥
            before NotObject l g = g
            before Id l g = g id has_id
            before Status l g = g published has_status
            before Created l g = g created has_created
            before other l g = absurd (omega (arith, l))

        module _ (name : Option (List ℕ)) (has_name : IsTextOrNull (value_at (codes "name") ms) name) where
          pub first-elements : Fails Elements ms → IsFirst ms Elements
          first-elements f = record { comes = f; first = before }
            where
              before : (other : ItemFault) → place_of other < 5 → Fails other ms → ⊥
              before NotObject l g = g
              before Id l g = g id has_id
              before Status l g = g published has_status
              before Created l g = g created has_created
              before Name l g = g name has_name
              before other l g = absurd (omega (arith, l))

          -- a fault among the elements
          pub first-among : (values : List (List ℕ)) → IsArray (value_at (codes "elements") ms) values
              → (fault : ItemFault) → IsElementsFault values fault → IsFirst ms fault
          first-among values array NotObject f = absurd f
          first-among values array Id f = absurd f
          first-among values array Status f = absurd f
          first-among values array Created f = absurd f
          first-among values array Name f = absurd f
          first-among values array Elements f = absurd f
          first-among values array (Element place why) f = record { comes = (values, array, f); first = before }
            where
              before : (other : ItemFault) → place_of other < 6 → Fails other ms → ⊥
              before NotObject l g = g
              before Id l g = g id has_id
              before Status l g = g published has_status
              before Created l g = g created has_created
              before Name l g = g name has_name
              before Elements l g = g values array
              before other l g = absurd (omega (arith, l))
          first-among values array (Repeated place) f = record { comes = (values, array, f); first = before }
            where
              before : (other : ItemFault) → place_of other < 7 → Fails other ms → ⊥
              before NotObject l g = g
              before Id l g = g id has_id
              before Status l g = g published has_status
              before Created l g = g created has_created
              before Name l g = g name has_name
              before Elements l g = g values array
              before (Element place' why) l (others, also, g) =
                  placed-faultless values f.0 place' why f.1
                  (subst (λ vs. IsFirstFaulty vs place' why) (array_of-once (value_at (codes "elements") ms) others
                  values also array) g)
              before other l g = absurd (omega (arith, l))
