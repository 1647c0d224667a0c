-- The element that members say keeps what the type of elements asks.
use Rattle.std.proofs.Common.{◌≡◌, ◌≤◌, ℕ, List, [], ◌∷◌, Bool, true, false, Option, Some, None, IfSome, refl, sym, subst, ◌∙◌, inl, inr, bytes_eq, codes, IsUtf8, lit≤, ◌-◌}
use Rattle.std.specs.Cmp.Lexicographic.{nat_list_eq_equiv}
use Rattle.std.specs.List.{AllByRecursion, IsDistinct, list_any}
use Rattle.std.proofs.lemmas.Bool.{or_parts}
use Rattle.std.proofs.lemmas.Map.Entries.{lookup_head, lookup_tail}
use Rattle.json_text.specs.Compact.{Member as Pair}
use Rattle.json_text.specs.Members.{pairs}
use Rattle.json_text.specs.Parts.{names_of, AreMembers}
use Rattle.json_text.specs.Value.{IsCompact}
use Rattle.json_text.specs.declared.text.Member.{Member}
use Rattle.scene_json.specs.Named.{value_at}
use Rattle.json_text.proofs.CallerLemmas.{bytes_eq-true, bytes_eq-same, Value-Form, object-starts, form-membered}
use Rattle.scene_json.proofs.CallerLemmas.{rising_distinct}
use Rattle.frac_keys.specs.Keys.{is_key}
use Rattle.elem.specs.declared.kind.Kind.TheVariants.{Arrow, Text, Image}
use Rattle.elem.specs.declared.parts.BoundRef.{BoundRef}
use Rattle.elem.specs.declared.parts.Binding.{Binding}
use Rattle.elem.specs.ElementValue.{ElementValue}
use Rattle.elem.specs.Facts.{IsBinding, IsElement, names, is_header}
use Rattle.elem.specs.Forms.{Find, find_in, IsTextOrNull, IsKeyOrNull, IsObject, AreListingEntries, AreOthers, IsBindingObject, IsBindingOrNull}
use Rattle.elem.specs.Said.{IsOwn, Says, IsBindingText, HasValidTexts}
use Rattle.elem.proofs.CallerLemmas.{names-rise, members-once, AreMembers-deeper, named-is, names-each}

-- ---- what holds of all that is found
abbrev pub AllFound : (List ℕ → List ℕ → Type 0) → Find → Type 0
AllFound P find = (name value : List ℕ) → find name ≡ Some value → P name value

pub found-has : (P : List ℕ → List ℕ → Type 0) (ms : List Pair) → AllByRecursion (λ (m : Pair). P m.0 m.1) ms
    → AllFound P (find_in ms)
found-has P [] all name value e = cc
found-has P (m ∷ ms) all name value e =
    elim (bytes_eq name m.0) as (λ b. bytes_eq name m.0 ≡ b → P name value) [
      | true ↦ λ same.
          let here : Some m.1 ≡ Some value = sym (lookup_head (bytes_eq name) m ms same) ∙ e in
          let is : m.1 ≡ value = cc in
          subst (λ n. P n value) (sym (bytes_eq-true name m.0 same)) (subst (P m.0) is all.0)
      | false ↦ λ other. found-has P ms all.1 name value (sym (lookup_tail (bytes_eq name) m ms other) ∙ e)
    ] refl

-- members of distinct names are found among themselves
found-behind : (m : Pair) (ms os : List Pair) → AllByRecursion (λ y. bytes_eq m.0 y ≡ false) (names_of os)
    → AllByRecursion (λ (o : Pair). value_at o.0 ms ≡ Some o.1) os
    → AllByRecursion (λ (o : Pair). value_at o.0 (m ∷ ms) ≡ Some o.1) os
found-behind m ms [] apart found = tt
found-behind m ms (o ∷ os) apart found = (
  lookup_tail (bytes_eq o.0) m ms (nat_list_eq_equiv.symm o.0 m.0 ∙ apart.0)
      ∙ found.0,
  found-behind m ms os apart.1 found.1,
)

pub found-self : (ms : List Pair) → IsDistinct bytes_eq (names_of ms)
    → AllByRecursion (λ (m : Pair). value_at m.0 ms ≡ Some m.1) ms
unfolding IsDistinct
found-self [] apart = tt
found-self (m ∷ ms) apart =
    (lookup_head (bytes_eq m.0) m ms (bytes_eq-same m.0), found-behind m ms ms apart.0 (found-self ms apart.1))

-- what holds of all that is found holds of the members that are no header members
others-each : (P : List ℕ → List ℕ → Type 0) (test : List ℕ → Bool) (find : Find) (all ms : List Member)
    → AllFound P find
    → ((name : List ℕ) → test name ≡ false → value_at name (pairs all) ≡ find name) → list_any test (names ms) ≡ false
    → AllByRecursion (λ (o : Pair). value_at o.0 (pairs all) ≡ Some o.1) (pairs ms)
    → AllByRecursion (λ (m : Member). P m.name m.value) ms
others-each P test find all [] holds same free found = tt
others-each P test find all (m ∷ ms) holds same free found =
    let parts = or_parts (test m.name) (list_any test (names ms)) free in (
      holds m.name m.value (sym (same m.name parts.0) ∙ found.0),
      others-each P test find all ms holds same parts.1 found.1,
    )

pub others-hold : (P : List ℕ → List ℕ → Type 0) (test : List ℕ → Bool) (find : Find) (others : List Member)
    → AllFound P find → AreOthers test find others → AllByRecursion (λ (m : Member). P m.name m.value) others
others-hold P test find others holds are =
    others-each P test find others others holds are.same are.free
    (found-self (pairs others) (rising_distinct (pairs others) (names-rise others are.rise)))

-- ---- bindings
pub object-nests : (limit : ℕ) (value : List ℕ) (members : List Pair) → limit ≤ 128 → limit - 1 ≤ 127
    → IsCompact limit value → IsObject value members → AreMembers (limit - 1) members
object-nests limit value members small smaller is object =
    let starts = object-starts members in
    let form = form-membered limit value (Value-Form is) (starts.0, object.spelled ∙ starts.1) in
    let same = members-once value form.0 members
    (record { are_members = AreMembers-deeper (limit - 1) 127 form.0 smaller form.1; spelled = form.2 }) object in
    subst (AreMembers (limit - 1)) same form.1

abbrev IsCompactAt : ℕ → List ℕ → List ℕ → Type 0
IsCompactAt limit name value = IsCompact limit value

abbrev IsNamed : List ℕ → List ℕ → Type 0
IsNamed name value = IsUtf8 name

binding-kept : (found : Option (List ℕ)) (binding : Binding)
    → ((value : List ℕ) → found ≡ Some value → IsCompact 119 value) → IsBindingObject found binding → IsBinding binding
binding-kept found binding nests is =
    let are : AreMembers 118 is.members =
    object-nests 119 is.value is.members (lit≤ tt) (lit≤ tt) (nests is.value is.found_is) is.object in
    record {
      rise = is.rest.rise;
      free = is.rest.free;
      nest = others-hold (IsCompactAt 118) (bytes_eq (codes "elementId")) (find_in is.members) binding.rest
          (found-has (IsCompactAt 118) is.members are.valued) is.rest;
    }

binding-written : (found : Option (List ℕ)) (binding : Binding) → IsBindingObject found binding → IsBindingText binding
binding-written found binding is = record {
  target = is.target.0;
  rest = names-each IsUtf8 binding.rest (others-hold IsNamed (bytes_eq (codes "elementId")) (find_in is.members)
      binding.rest
      (found-has IsNamed is.members is.object.are_members.named) is.rest);
}

-- ---- parts of one kind alone
own-hold : {A : Type 0} (own : Bool) (IsForm : Option (List ℕ) → Option A
    → Type 0) (found : Option (List ℕ)) (part : Option A) (Q : A → Type 0) → IsOwn own IsForm found part
    → ((x : A) → own ≡ true → IsForm found (Some x) → Q x) → IfSome part Q
own-hold true IsForm found None Q is f = tt
own-hold true IsForm found (Some x) Q is f = f x refl is
own-hold false IsForm found None Q is f = tt
own-hold false IsForm found (Some x) Q is f = cc

key-holds : (found : Option (List ℕ)) (key : Option (List ℕ)) → IsKeyOrNull found key
    → IfSome key (λ k. is_key k ≡ true)
key-holds found None is = tt
key-holds found (Some key) is = is.1

text-holds : (found : Option (List ℕ)) (text : Option (List ℕ)) → IsTextOrNull found text → IfSome text IsUtf8
text-holds found None is = tt
text-holds found (Some text) is = is.0

entries-written : (items : List (List ℕ)) (entries : List BoundRef) → AreListingEntries items entries
    → AllByRecursion (λ (entry : BoundRef). IsUtf8 entry.id) entries
entries-written [] entries is = subst (AllByRecursion (λ (entry : BoundRef). IsUtf8 entry.id)) (sym is) tt
entries-written (item ∷ items) entries (inl (entry, others, is, one, more)) =
    subst (AllByRecursion (λ (entry : BoundRef). IsUtf8 entry.id)) (sym is) (
      one.id.0,
      entries-written items others more,
    )
entries-written (item ∷ items) entries (inr (none, more)) = entries-written items entries more

-- ---- the element
pub says-element : (find : Find) (e : ElementValue) → AllFound (λ name value. IsCompact 119 value) find → Says find e
    → IsElement e
says-element find e nests is = record {
  named = is.id.1;
  version = is.version.0;
  nonce = is.nonce.0;
  updated = is.updated.0;
  kind = is.kind.1;
  container = own-hold _ IsTextOrNull _ e.container _ is.container
      (λ x own form. named-is (codes "text") e.kind Text is.kind.1 tt refl own);
  start_binding = own-hold _ IsBindingOrNull _ e.start_binding _ is.start_binding
      (λ x own form. (
        named-is (codes "arrow") e.kind Arrow is.kind.1 tt refl own,
        binding-kept _ x (nests (codes "startBinding")) form,
      ));
  end_binding = own-hold _ IsBindingOrNull _ e.end_binding _ is.end_binding
      (λ x own form. (
        named-is (codes "arrow") e.kind Arrow is.kind.1 tt refl own,
        binding-kept _ x (nests (codes "endBinding")) form,
      ));
  file = own-hold _ IsTextOrNull _ e.file _ is.file (λ x own form. named-is (codes "image") e.kind Image is.kind.1 tt
      refl own);
  rise = is.rest.rise;
  free = is.rest.free;
  nest = others-hold (IsCompactAt 119) (is_header e.kind) find e.rest nests is.rest;
}

pub says-written : (find : Find) (e : ElementValue) → AllFound (λ name value. IsUtf8 name) find → Says find e
    → HasValidTexts e
says-written find e named is = record {
  id = is.id.0.0;
  kind = is.kind.0.0;
  index = key-holds _ e.index is.index;
  groups = is.groups.0;
  frame = text-holds _ e.frame is.frame;
  bound = entries-written is.bound.0 e.bound is.bound.3;
  container = own-hold _ IsTextOrNull _ e.container _ is.container (λ x own form. form.0);
  start_binding =
      own-hold _ IsBindingOrNull _ e.start_binding _ is.start_binding (λ x own form. binding-written _ x form);
  end_binding = own-hold _ IsBindingOrNull _ e.end_binding _ is.end_binding (λ x own form. binding-written _ x form);
  file = own-hold _ IsTextOrNull _ e.file _ is.file (λ x own form. form.0);
  rest = names-each IsUtf8 e.rest (others-hold IsNamed (is_header e.kind) find e.rest named is.rest);
}
