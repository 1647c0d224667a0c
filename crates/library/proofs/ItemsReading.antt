-- Items that are read one after the other, and what is told of their faults.
use Rattle.std.proofs.Common.{◌≡◌, ℕ, zero, suc, ◌+◌, ◌<◌, List, [], ◌∷◌, ◌++◌, Some, length, take, get_or, codes, refl, sym, ap, subst, ◌∙◌, arith}
use Rattle.std.proofs.lemmas.List.{take_more}
use Rattle.board_base.specs.declared.stop.Stop.TheVariants.{Fault}
use Rattle.json_text.specs.Characters.{quote}
use Rattle.json_text.specs.Compact.{Member as Pair}
use Rattle.json_text.proofs.CallerLemmas.{ascii-utf8}
use Rattle.scene_json.specs.Named.{value_at}
use Rattle.elem_read.proofs.CallerLemmas.{stopped}
use Rattle.library.specs.Reading.{AreItemsIn, IsFirstFaultyItem, IsItemFault, IsItemIn, IsLibrary}
use Rattle.library.specs.declared.fault.ItemFault.{ItemFault}
use Rattle.library.specs.declared.fault.LibFault.{LibFault}
use Rattle.library.specs.declared.item.Item.{Item}

pub is-library : (members : List Pair) → value_at (codes "type") members ≡ Some (quote (codes "excalidrawlib"))
    → IsLibrary members
is-library members kind = (ascii-utf8 (codes "excalidrawlib") refl, kind)

pub lib_fault-same : (A : Type 0) (a b : LibFault) → stopped A (Fault a) ≡ stopped A (Fault b) → a ≡ b
lib_fault-same A a b e = cc

pub item_fault-same : (A : Type 0) (a b : ItemFault) → stopped A (Fault a) ≡ stopped A (Fault b) → a ≡ b
item_fault-same A a b e = cc

-- ---- one value more
read-append : (values : List (List ℕ)) (value : List ℕ) (items : List Item) (item : Item) → AreItemsIn values items
    → IsItemIn value item → AreItemsIn (values ++ value ∷ []) (items ++ item ∷ [])
read-append [] value items item read is = (item, [], ap (λ xs. xs ++ item ∷ []) read, is, refl)
read-append (v ∷ values) value items item (first, others, all, one, read) is =
    (first, others ++ item ∷ [], ap (λ xs. xs ++ item ∷ []) all, one, read-append values value others item read is)

pub read-more : (values : List (List ℕ)) (i : ℕ) (value : List ℕ) (items new : List Item) (item : Item)
    → i < length values → value ≡ get_or values i value
    → AreItemsIn (take i values) items → IsItemIn value item → new ≡ items ++ item ∷ []
    → AreItemsIn (take (i + 1) values) new
read-more values i value items new item within at read is pushed =
    let next : take (i + 1) values ≡ take i values ++ value ∷ [] =
    take_more values i value within ∙ ap (λ v. take i values ++ v ∷ []) (sym at) in
    subst (λ vs. AreItemsIn vs new) (sym next) (subst (AreItemsIn (take i values ++ value ∷ [])) (sym pushed)
    (read-append (take i values) value items item read is))

-- a faulty value behind values that are read
pub faulty-next : (values : List (List ℕ)) (i : ℕ) (value : List ℕ) (items : List Item) (fault : ItemFault)
    → i < length values → value ≡ get_or values i value
    → AreItemsIn (take i values) items → IsItemFault value fault → IsFirstFaultyItem values i fault
faulty-next [] i value items fault within at read faulty = absurd (omega arith)
faulty-next (v ∷ values) zero value items fault within at read faulty = subst (λ w. IsItemFault w fault) at faulty
faulty-next (v ∷ values) (suc i) value items fault within at (item, others, all, is, read) faulty =
    ((item, is), faulty-next values i value others fault (omega arith) at read faulty)
