-- The value that is read, its members and the restored ones.
use Rattle.std.proofs.Common.{◌≡◌, ◌≢◌, ℕ, List, Some, All, subst, refl, sym, ap, ◌∙◌, bytes_eq, codes, lit≤}
use Rattle.std.proofs.lemmas.Bool.{both_ways}
use Rattle.std.proofs.lemmas.List.Elements.{recursion_from_All}
use Rattle.json_text.specs.Compact.{Member as Pair, object_text}
use Rattle.json_text.specs.Members.{pairs}
use Rattle.json_text.specs.Parts.{AreMembers}
use Rattle.json_text.specs.Value.{IsCompact}
use Rattle.json_text.specs.declared.text.Member.{Member}
use Rattle.scene_json.specs.Named.{value_at}
use Rattle.scene_json.specs.Walks.{IsTakenApart}
use Rattle.scene_json.specs.declared.parts.Item.{Item}
use Rattle.scene_json.specs.declared.parts.Item.TheVariants.{Object, Other}
use Rattle.json_text.proofs.CallerLemmas.{bytes_eq-same, object-compact}
use Rattle.scene_json.proofs.CallerLemmas.{AreMembers-values, pairs-each}
use Rattle.restore_table.specs.Restored.{AreRestored, old_name}
use Rattle.restore_table.proofs.CallerLemmas.{unknown-stays}
use Rattle.elem.specs.ElementValue.{ElementValue}
use Rattle.elem.specs.Forms.{find_in, IsObject}
use Rattle.elem.specs.Said.{Says}
use Rattle.elem_read.specs.Faults.{IsFirst}
use Rattle.elem_read.specs.Reading.{IsSelection, IsNoSelection, IsElementIn, HasFault, IsFaultIn, selection_text}
use Rattle.elem_read.specs.declared.fault.ElemFault.{ElemFault}
use Rattle.elem_read.specs.declared.fault.ElemFault.TheVariants.{NotObject, Depth, Id, Kind, Version, Nonce, Updated, Index, Deleted, Groups, Frame, Bound, Container, Binding, File}
use Rattle.elem_read.proofs.Keeping.{AllFound, found-has, object-nests}

pub no-object : (value : List ℕ) → ((members : List Pair) → value ≢ object_text members) → IsFaultIn value NotObject
no-object value none = λ members object. none members object.spelled

-- what an item is that was taken apart
pub taken-object : (value : List ℕ) (item : Item) (ms : List Member) → IsTakenApart value item → item ≡ Object ms
    → IsObject value (pairs ms)
taken-object value item ms is e =
    let some = subst (IsTakenApart value) e is in record { are_members = some.0; spelled = some.1 }

pub taken-other : (value : List ℕ) (item : Item) → IsTakenApart value item → item ≡ Other → IsFaultIn value NotObject
taken-other value item is e = no-object value (subst (IsTakenApart value) e is)

pub is-object : (value : List ℕ) (ms : List Pair) → value ≡ object_text ms → AreMembers 127 ms → IsObject value ms
is-object value ms spelled are = record { are_members = are; spelled = spelled }

pub selection : (value : List ℕ) (ms : List Pair) → IsObject value ms → value_at (codes "type") ms ≡ Some selection_text
    → IsSelection value
selection value ms object kind = record { members = ms; object = object; kind = kind }

pub no_selection : (value : List ℕ) (ms : List Pair) → IsObject value ms
    → value_at (codes "type") ms ≢ Some selection_text → IsNoSelection value ms
no_selection value ms object kind = record { object = object; kind = kind }

-- the members of a value that nests at most 120
pub given-nest : (value : List ℕ) (ms : List Member) → IsObject value (pairs ms) → IsCompact 120 value
    → All (λ (m : Member). IsCompact 119 m.value) ms
given-nest value ms object shallow =
    AreMembers-values 119 ms (object-nests 120 value (pairs ms) (lit≤ tt) (lit≤ tt) shallow object)

pub nest-given : (value : List ℕ) (ms : List Member) → IsObject value (pairs ms)
    → All (λ (m : Member). IsCompact 119 m.value) ms → IsCompact 120 value
nest-given value ms object each =
    let are = object.are_members in
    rw object.spelled (object-compact 119 (pairs ms)
    (record {
      named = are.named;
      valued =
          pairs-each (λ (m : Pair). IsCompact 119 m.1) ms (recursion_from_All (λ (m : Member). IsCompact 119 m.value) ms
          each);
      distinct =
          are.distinct;
    }))

-- restoring keeps the type
pub kind-stays : (ms rs : List Pair) → AreRestored ms rs → value_at (codes "type") ms ≢ Some selection_text
    → value_at (codes "type") rs ≢ Some selection_text
kind-stays ms rs are kept there =
    kept
    (sym (unknown-stays ms rs (codes "type") are (λ e. both_ways (bytes_eq (codes "type") old_name) refl
    (ap (λ n. bytes_eq n old_name) e ∙ bytes_eq-same old_name)) refl) ∙ there)

pub members-found : (ms : List Member) → All (λ (m : Member). IsCompact 119 m.value) ms
    → AllFound (λ name value. IsCompact 119 value) (find_in (pairs ms))
members-found ms is = found-has (λ name value. IsCompact 119 value) (pairs ms)
    (pairs-each (λ (m : Pair). IsCompact 119 m.1) ms (recursion_from_All (λ (m : Member). IsCompact 119 m.value) ms is))

pub element-in : (value : List ℕ) (ms rs : List Pair) (e : ElementValue) → IsNoSelection value ms → IsCompact 120 value
    → AreRestored ms rs → Says (find_in rs) e → IsElementIn value e
element-in value ms rs e no_selection shallow restores says =
    record {
      members = ms;
      restored = rs;
      no_selection = no_selection;
      shallow = shallow;
      restores = restores;
      says =
          says;
    }

pub fault-in : (value : List ℕ) (ms rs : List Pair) (fault : ElemFault) → IsNoSelection value ms → IsCompact 120 value
    → AreRestored ms rs → IsFirst (find_in rs) fault → IsFaultIn value fault
fault-in value ms rs fault no_selection shallow restores first =
    in-members fault (record {
      members = ms;
      restored = rs;
      no_selection = no_selection;
      shallow = shallow;
      restores =
          restores;
      first = first;
    })
  where
    in-members : (f : ElemFault) → HasFault value f → IsFaultIn value f
    in-members NotObject h = absurd h.first.comes
    in-members Depth h = absurd h.first.comes
    in-members Id h = h
    in-members Kind h = h
    in-members Version h = h
    in-members Nonce h = h
    in-members Updated h = h
    in-members Index h = h
    in-members Deleted h = h
    in-members Groups h = h
    in-members Frame h = h
    in-members Bound h = h
    in-members Container h = h
    in-members Binding h = h
    in-members File h = h
