-- A value is read in one way alone, whatever the order of its members.
use Rattle.std.proofs.Common.{◌≡◌, ℕ, List, [], ◌∷◌, Some, refl, sym, ap, subst, ◌∙◌, codes, lit≤}
use Rattle.std.specs.List.{AllByRecursion}
use Rattle.json_text.specs.Compact.{Member as Pair}
use Rattle.json_text.specs.Parts.{AreMembers}
use Rattle.json_text.specs.Value.{IsCompact}
use Rattle.scene_json.specs.Named.{value_at, AreSameMembers}
use Rattle.json_text.proofs.CallerLemmas.{object-compact}
use Rattle.restore_table.specs.Restored.{AreRestored}
use Rattle.restore_table.proofs.CallerLemmas.{restored-unique, restored-order}
use Rattle.elem.specs.ElementValue.{ElementValue}
use Rattle.elem.specs.Forms.{find_in, IsObject}
use Rattle.elem.specs.Said.{Says}
use Rattle.elem.proofs.CallerLemmas.{members-once, Says-once}
use Rattle.elem_read.specs.Faults.{IsFirst}
use Rattle.elem_read.specs.Reading.{IsSelection, IsNoSelection, IsElementIn, IsTooDeepElement, HasFault, IsFaultIn}
use Rattle.elem_read.specs.declared.fault.ElemFault.{ElemFault}
use Rattle.elem_read.specs.declared.fault.ElemFault.TheVariants.{NotObject, Depth, Id, Kind, Version, Nonce, Updated, Index, Deleted, Groups, Frame, Bound, Container, Binding, File}
use Rattle.elem_read.proofs.Firsts.{first-once, faultless}
use Rattle.elem_read.proofs.Keeping.{found-has, found-self, object-nests}

-- ---- one way alone
restored-once : (value : List ℕ) (ms ns rs ss : List Pair) → IsObject value ms → IsObject value ns → AreRestored ms rs
    → AreRestored ns ss → rs ≡ ss
restored-once value ms ns rs ss one two left right =
    restored-unique ms rs ss left (subst (λ os. AreRestored os ss) (sym (members-once value ms ns one two)) right)

pub element-once : (value : List ℕ) (e other : ElementValue) → IsElementIn value e → IsElementIn value other → e ≡ other
element-once value e other one two =
    let same = restored-once value one.members two.members one.restored two.restored one.no_selection.object
    two.no_selection.object one.restores two.restores in
    Says-once (find_in one.restored) e other one.says (subst (λ rs. Says (find_in rs) other) (sym same) two.says)

-- a fault is that there is no object, that it is too deep, or one of its members
data Faulty (value : List ℕ) (fault : ElemFault) : Type 0 where
  none : fault ≡ NotObject → ((members : List Pair) → IsObject value members → ⊥) → Faulty value fault
  deep : fault ≡ Depth → IsTooDeepElement value → Faulty value fault
  has : HasFault value fault → Faulty value fault

faulty : (value : List ℕ) (fault : ElemFault) → IsFaultIn value fault → Faulty value fault
faulty value NotObject is = none refl is
faulty value Depth is = deep refl is
faulty value Id is = has is
faulty value Kind is = has is
faulty value Version is = has is
faulty value Nonce is = has is
faulty value Updated is = has is
faulty value Index is = has is
faulty value Deleted is = has is
faulty value Groups is = has is
faulty value Frame is = has is
faulty value Bound is = has is
faulty value Container is = has is
faulty value Binding is = has is
faulty value File is = has is

faults-once : (value : List ℕ) (a b : ElemFault) → Faulty value a → Faulty value b → a ≡ b
faults-once value a b (none e one) (none f two) = e ∙ sym f
faults-once value a b (none e one) (deep f two) = absurd (one two.members two.no_selection.object)
faults-once value a b (none e one) (has two) = absurd (one two.members two.no_selection.object)
faults-once value a b (deep e one) (none f two) = absurd (two one.members one.no_selection.object)
faults-once value a b (deep e one) (deep f two) = e ∙ sym f
faults-once value a b (deep e one) (has two) = absurd (one.deep two.shallow)
faults-once value a b (has one) (none f two) = absurd (two one.members one.no_selection.object)
faults-once value a b (has one) (deep f two) = absurd (two.deep one.shallow)
faults-once value a b (has one) (has two) =
    let same = restored-once value one.members two.members one.restored two.restored one.no_selection.object
    two.no_selection.object one.restores two.restores in
    first-once (find_in one.restored) a b one.first (subst (λ rs. IsFirst (find_in rs) b) (sym same) two.first)

pub fault-once : (value : List ℕ) (a b : ElemFault) → IsFaultIn value a → IsFaultIn value b → a ≡ b
fault-once value a b one two = faults-once value a b (faulty value a one) (faulty value b two)

without-fault : (value : List ℕ) (e : ElementValue) (fault : ElemFault) → IsElementIn value e → Faulty value fault → ⊥
without-fault value e fault is (none f lacks) = lacks is.members is.no_selection.object
without-fault value e fault is (deep f two) = two.deep is.shallow
without-fault value e fault is (has two) =
    let same = restored-once value is.members two.members is.restored two.restored is.no_selection.object
    two.no_selection.object is.restores two.restores in
    faultless (find_in is.restored) e is.says fault
    (subst (λ rs. IsFirst (find_in rs) fault) (sym same) two.first).comes

pub element-faultless : (value : List ℕ) (e : ElementValue) (fault : ElemFault) → IsElementIn value e
    → IsFaultIn value fault → ⊥
element-faultless value e fault is two = without-fault value e fault is (faulty value fault two)

no_selection-kept : (value : List ℕ) (ms : List Pair) → IsNoSelection value ms → IsSelection value → ⊥
no_selection-kept value ms is selection =
    is.kind (ap (value_at (codes "type")) (members-once value ms selection.members is.object selection.object)
    ∙ selection.kind)

pub element-kept : (value : List ℕ) (e : ElementValue) → IsElementIn value e → IsSelection value → ⊥
element-kept value e is = no_selection-kept value is.members is.no_selection

dropped : (value : List ℕ) (fault : ElemFault) → Faulty value fault → IsSelection value → ⊥
dropped value fault (none f lacks) selection = lacks selection.members selection.object
dropped value fault (deep f two) selection = no_selection-kept value two.members two.no_selection selection
dropped value fault (has two) selection = no_selection-kept value two.members two.no_selection selection

pub fault-dropped : (value : List ℕ) (fault : ElemFault) → IsFaultIn value fault → IsSelection value → ⊥
fault-dropped value fault is = dropped value fault (faulty value fault is)

-- ---- in whatever order
valued-moved : (P : List ℕ → Type 0) (ms os ns : List Pair) → AllByRecursion (λ (m : Pair). P m.1) ms
    → AreSameMembers ms os
    → AllByRecursion (λ (n : Pair). value_at n.0 os ≡ Some n.1) ns → AllByRecursion (λ (n : Pair). P n.1) ns
valued-moved P ms os [] all same found = tt
valued-moved P ms os (n ∷ ns) all same found =
    (found-has (λ name value. P value) ms all n.0 n.1 (same n.0 ∙ found.0), valued-moved P ms os ns all same found.1)

shallow-moved : (value other : List ℕ) (ms os : List Pair) → IsObject value ms → IsObject other os
    → AreSameMembers ms os → IsCompact 120 value → IsCompact 120 other
shallow-moved value other ms os one two same shallow =
    let are = object-nests 120 value ms (lit≤ tt) (lit≤ tt) shallow one in
    let moved : AreMembers 119 os = record {
      named = two.are_members.named;
      valued = valued-moved (IsCompact 119) ms os os are.valued same (found-self os two.are_members.distinct);
      distinct = two.are_members.distinct;
    } in
    subst (IsCompact 120) (sym two.spelled) (object-compact 119 os moved)

no_selection-moved : (value other : List ℕ) (ms os : List Pair) → IsObject other os → AreSameMembers ms os
    → IsNoSelection value ms → IsNoSelection other os
no_selection-moved value other ms os two same is =
    record { object = two; kind = λ selection. is.kind (same (codes "type") ∙ selection) }

pub element-moved : (value other : List ℕ) (ms os : List Pair) (e : ElementValue) → IsObject value ms
    → IsObject other os → AreSameMembers ms os → IsElementIn value e → IsElementIn other e
element-moved value other ms os e one two same is =
    let own = members-once value is.members ms is.no_selection.object one in record {
      members = os;
      restored = is.restored;
      no_selection = no_selection-moved value other ms os two same (subst (IsNoSelection value) own is.no_selection);
      shallow = shallow-moved value other ms os one two same is.shallow;
      restores = restored-order ms os is.restored same (subst (λ ns. AreRestored ns is.restored) own is.restores);
      says = is.says;
    }

pub fault-moved : (value other : List ℕ) (ms os : List Pair) (fault : ElemFault) → IsObject value ms → IsObject other os
    → AreSameMembers ms os → IsFaultIn value fault → IsFaultIn other fault
fault-moved value other ms os fault one two same is = back fault (moved fault (faulty value fault is))
  where
    moved : (f : ElemFault) → Faulty value f → Faulty other f
    moved f (none e lacks) = absurd (lacks ms one)
    moved f (deep e bad) = deep e (record {
      members = os;
      no_selection = no_selection-moved value other ms os two same
          (subst (IsNoSelection value) (members-once value bad.members ms bad.no_selection.object one)
          bad.no_selection);
      deep = λ shallow. bad.deep (shallow-moved other value os ms two one (λ name. sym (same name)) shallow);
    })
    moved f (has bad) =
        let own = members-once value bad.members ms bad.no_selection.object one in has (record {
          members = os;
          restored = bad.restored;
          no_selection =
              no_selection-moved value other ms os two same (subst (IsNoSelection value) own bad.no_selection);
          shallow = shallow-moved value other ms os one two same bad.shallow;
          restores =
              restored-order ms os bad.restored same (subst (λ ns. AreRestored ns bad.restored) own bad.restores);
          first = bad.first;
        })

    in-members : (f : ElemFault) → HasFault other f → IsFaultIn other f
    in-members NotObject h = absurd h.first.comes
    in-members Depth h = absurd h.first.comes
    in-members Id h = h
    in-members Kind h = h
    in-members Version h = h
    in-members Nonce h = h
    in-members Updated h = h
    in-members Index h = h
    in-members Deleted h = h
    in-members Groups h = h
    in-members Frame h = h
    in-members Bound h = h
    in-members Container h = h
    in-members Binding h = h
    in-members File h = h

    back : (f : ElemFault) → Faulty other f → IsFaultIn other f
    back f (none e lacks) = subst (IsFaultIn other) (sym e) lacks
    back f (deep e bad) = subst (IsFaultIn other) (sym e) bad
    back f (has bad) = in-members f bad

pub selection-moved : (value other : List ℕ) (ms os : List Pair) → IsObject value ms → IsObject other os
    → AreSameMembers ms os → IsSelection value → IsSelection other
selection-moved value other ms os one two same is = record {
  members = os;
  object = two;
  kind = sym (same (codes "type"))
      ∙ (ap (value_at (codes "type")) (sym (members-once value is.members ms is.object one)) ∙ is.kind);
}
