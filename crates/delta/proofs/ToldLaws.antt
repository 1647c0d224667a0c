-- Changes told of name by name.
use Rattle.std.proofs.Common.{◌≡◌, ℕ, zero, suc, ◌<◌, length, take, get_or, arith, Bool, true, false, cond, ◌||◌, List, [], ◌∷◌, ◌++◌, Option, Some, None, IfSome, inl, inr, codes, bytes_eq, if◌then◌else◌, refl, sym, ap, ◌∙◌, subst}
use Rattle.std.specs.List.{AllByRecursion, list_any}
use Rattle.std.proofs.lemmas.Bool.{cases_Bool, false≢true, or_parts}
use Rattle.std.proofs.lemmas.List.Folds.{list_any-append}
use Rattle.std.proofs.Math.Bool.{or-true, or-false}
use Rattle.json_text.specs.Value.{IsCompact}
use Rattle.json_text.specs.declared.text.Member.{Member}
use Rattle.json_text.proofs.CallerLemmas.{bytes_eq-true, bytes_eq-same}
use Rattle.elem.specs.declared.parts.BoundRef.{BoundRef}
use Rattle.elem.specs.ElementValue.{ElementValue}
use Rattle.elem.specs.declared.kind.Kind.{Kind}
use Rattle.elem.specs.Facts.{names, is_header, header_names, own_names}
use Rattle.delta.specs.declared.change.Change.{Change}
use Rattle.delta.specs.declared.change.Change.TheVariants.{Scalar, Groups, Bound}
use Rattle.delta.specs.declared.header.Header.{Header}
use Rattle.delta.specs.declared.header.Header.TheVariants as headers
use Rattle.delta.specs.Facts.{IsChange, IsScalar, name_of, other_names}
use Rattle.delta.specs.Headers.{header_named, value_named, scalar_at, scalar_of}
use Rattle.elem.specs.Listings.{same_listing_entry}
use Rattle.delta.specs.Joined.{are_same}
use Rattle.delta.specs.Parts.{change_of, scalar_change, groups_change, bound_change, scalars_same}
use Rattle.delta.specs.inner.Told.{change_between, with_change, AreChangesOf, AreAllChanges}
use Rattle.delta.proofs.HeaderLaws.{header_name, named}
use Rattle.delta.proofs.Placing.{item-put, rising-put, each-put}

-- a change, if it is one, is of the member of this name in elements of the kind
abbrev pub IsOf : ElementValue → List ℕ → Option Change → Type 0
IsOf e name o = IfSome o (λ c. (name_of c ≡ name) × IsChange e.kind c)

nothing : (b : Bool) (o : Option Change) → o ≡ None → (if b then o else None) ≡ None
nothing true o e = e
nothing false o e = refl

-- what the names tell with one more
module _ (before after : ElementValue) (known : List (List ℕ)) (cs : List Change) (name : List ℕ)
    (told : AreChangesOf before after known cs) where
  wanted : List ℕ → Option Change
  wanted n = if list_any (bytes_eq n) (known ++ name ∷ []) then change_between before after n else None

  others : (n : List ℕ) → bytes_eq n name ≡ false
      → (if list_any (bytes_eq n) known then change_between before after n else None) ≡ wanted n
  unfolding wanted
  others n f =
      ap (λ b. if b then change_between before after n else None)
      (sym (or-false (list_any (bytes_eq n) known))
      ∙ ap (λ b. list_any (bytes_eq n) known || b) (sym (ap (λ b. b || false) f))
      ∙ sym (list_any-append (bytes_eq n) known (name ∷ [])))

  itself : wanted name ≡ change_between before after name
  unfolding wanted
  itself =
      ap (λ b. if b then change_between before after name else None)
      (list_any-append (bytes_eq name) known (name ∷ [])
      ∙ ap (λ b. list_any (bytes_eq name) known || (b || false)) (bytes_eq-same name)
      ∙ or-true (list_any (bytes_eq name) known))

  by-name : (new : List Change) → ((n : List ℕ) → bytes_eq n name ≡ false → change_of new n ≡ change_of cs n)
      → change_of new name ≡ change_between before after name → (n : List ℕ) → change_of new n ≡ wanted n
  by-name new apart here n = elim (cases_Bool (bytes_eq n name)) [
    | inl t ↦ subst (λ m. change_of new m ≡ wanted m) (sym (bytes_eq-true n name t)) (here ∙ sym itself)
    | inr f ↦ apart n f ∙ told.told n ∙ others n f
  ]

  none-told : change_between before after name ≡ None → change_of cs name ≡ change_between before after name
  none-told e = told.told name ∙ nothing (list_any (bytes_eq name) known) (change_between before after name) e ∙ sym e

  chosen : (n : List ℕ) (c : Change) → name_of c ≡ name → Some c ≡ change_between before after name
      → cond (bytes_eq n (name_of c)) (Some c) (change_of cs n) ≡ wanted n
  unfolding wanted
  chosen n c of is = elim (cases_Bool (bytes_eq n name)) [
    | inl t ↦
        ap (λ m. cond (bytes_eq n m) (Some c) (change_of cs n)) of ∙ ap (λ b. cond b (Some c) (change_of cs n)) t
        ∙ is ∙ sym itself ∙ ap wanted (sym (bytes_eq-true n name t))
    | inr f ↦
        ap (λ m. cond (bytes_eq n m) (Some c) (change_of cs n)) of ∙ ap (λ b. cond b (Some c) (change_of cs n)) f
        ∙ told.told n ∙ others n f
  ]

  with_told : (o : Option Change) → o ≡ change_between before after name → IsOf after name o
      → AreChangesOf before after (known ++ name ∷ []) (with_change cs o)
  unfolding wanted
  with_told None is of =
      record { told = by-name cs (λ n f. refl) (none-told (sym is)); rise = told.rise; each = told.each }
  with_told (Some c) is of = record {
    told = λ n. item-put name_of c cs n told.rise ∙ chosen n c of.0 is;
    rise = rising-put name_of c cs told.rise;
    each = each-put name_of (IsChange after.kind) c cs of.1 told.each;
  }

  pub AreChangesOf-more : (o : Option Change) (new : List Change) → o ≡ change_between before after name
      → IsOf after name o → new ≡ with_change cs o → AreChangesOf before after (known ++ name ∷ []) new
  AreChangesOf-more o new is of made =
      subst (AreChangesOf before after (known ++ name ∷ [])) (sym made) (with_told o is of)

pub AreChangesOf-none : (before after : ElementValue) → AreChangesOf before after [] []
AreChangesOf-none before after = record { told = λ n. refl; rise = refl; each = tt }

-- ---- changes of scalars and lists
pub scalar-between : (before after : ElementValue) (name : List ℕ) → list_any (bytes_eq name) other_names ≡ false
    → scalar_change name (scalar_of before name) (scalar_of after name) ≡ change_between before after name
scalar-between before after name free =
    let o1 = or_parts (bytes_eq name (codes "id")) _ free in
    let o2 = or_parts (bytes_eq name (codes "type")) _ o1.1 in
    let o3 = or_parts (bytes_eq name (codes "groupIds")) _ o2.1 in
    let o4 = or_parts (bytes_eq name (codes "boundElements")) _ o3.1 in
    let scalar = scalar_change name (scalar_of before name) (scalar_of after name) in
    sym
    (ap (λ b. if b then groups_change before.groups after.groups
    else (if bytes_eq name (codes "boundElements") then bound_change before.bound after.bound else scalar)) o3.0
    ∙ ap (λ b. if b then bound_change before.bound after.bound else scalar) o4.0)

pub IsOf-scalar : (e : ElementValue) (name : List ℕ) (before after : Option (List ℕ))
    → list_any (bytes_eq name) other_names ≡ false → IsScalar (header_named e.kind name) before
    → IsScalar (header_named e.kind name) after → IsOf e name (scalar_change name before after)
IsOf-scalar e name before after free b a =
    elim (scalars_same before after) as (λ same. IsOf e name (if same then None else Some (Scalar name before after)))
    [ true ↦ tt | false ↦ (refl, (free, b, a)) ]

pub IsOf-groups : (e : ElementValue) (before after : List (List ℕ))
    → IsOf e (codes "groupIds") (groups_change before after)
IsOf-groups e before after =
    elim (are_same bytes_eq before after) as
    (λ same. IsOf e (codes "groupIds") (if same then None else Some (Groups before after))) [
      | true ↦ tt
      | false ↦ (refl, tt)
    ]

pub IsOf-bound : (e : ElementValue) (before after : List BoundRef)
    → IsOf e (codes "boundElements") (bound_change before after)
IsOf-bound e before after =
    elim (are_same same_listing_entry before after) as
    (λ same. IsOf e (codes "boundElements") (if same then None else Some (Bound before after))) [
      | true ↦ tt
      | false ↦ (refl, tt)
    ]

-- ---- all names
abbrev pub first_names : List (List ℕ)
first_names =
    codes "groupIds" ∷ codes "boundElements" ∷ codes "isDeleted" ∷ codes "index" ∷ codes "frameId"
    ∷ codes "containerId" ∷ codes "startBinding" ∷ codes "endBinding" ∷ codes "fileId" ∷ []

header-first : (h : Header) → list_any (bytes_eq (header_name h)) first_names ≡ true
header-first headers.Deleted = refl
header-first headers.Index = refl
header-first headers.Frame = refl
header-first headers.Container = refl
header-first headers.StartBinding = refl
header-first headers.EndBinding = refl
header-first headers.File = refl

pub not-named : (name : List ℕ) (ms : List Member) → list_any (bytes_eq name) (names ms) ≡ false
    → value_named name ms ≡ None
not-named name [] h = refl
not-named name (m ∷ ms) h =
    let parts = or_parts (bytes_eq name m.name) (list_any (bytes_eq name) (names ms)) h in
    ap (λ b. if b then Some m.value else value_named name ms) parts.0 ∙ not-named name ms parts.1

pub AreAllChanges-from : (before after : ElementValue) (cs : List Change) → before.kind ≡ after.kind
    → AreChangesOf before after ((first_names ++ names before.rest) ++ names after.rest) cs
    → AreAllChanges before after cs
AreAllChanges-from before after cs kind told = record {
  told = λ n. elim (cases_Bool (list_any (bytes_eq n) ((first_names ++ names before.rest) ++ names after.rest))) [
    | inl t ↦ told.told n ∙ ap (λ b. if b then change_between before after n else None) t
    | inr f ↦ told.told n ∙ ap (λ b. if b then change_between before after n else None) f ∙ sym (none n f)
  ];
  rise = told.rise;
  each = told.each;
}
  where
    none : (n : List ℕ) → list_any (bytes_eq n) ((first_names ++ names before.rest) ++ names after.rest) ≡ false
        → change_between before after n ≡ None
    none n f =
        let last = or_parts (list_any (bytes_eq n) (first_names ++ names before.rest))
        (list_any (bytes_eq n) (names after.rest))
        (sym (list_any-append (bytes_eq n) (first_names ++ names before.rest) (names after.rest)) ∙ f) in
        let first = or_parts (list_any (bytes_eq n) first_names) (list_any (bytes_eq n) (names before.rest))
        (sym (list_any-append (bytes_eq n) first_names (names before.rest)) ∙ last.0) in
        let groups = or_parts (bytes_eq n (codes "groupIds")) _ first.0 in
        let bound = or_parts (bytes_eq n (codes "boundElements")) _ groups.1 in
        let scalar = scalar_change n (scalar_of before n) (scalar_of after n) in
        ap (λ b. if b then groups_change before.groups after.groups
        else (if bytes_eq n (codes "boundElements") then bound_change before.bound after.bound else scalar))
        groups.0
        ∙ ap (λ b. if b then bound_change before.bound after.bound else scalar) bound.0
        ∙ ap (λ o. scalar_change n o (scalar_of after n)) (gone before (header_named before.kind n) refl first.0
        first.1)
        ∙ ap (λ o. scalar_change n None o) (gone after (header_named after.kind n) refl first.0 last.1)
      where
        gone : (e : ElementValue) (o : Option Header) → header_named e.kind n ≡ o
            → list_any (bytes_eq n) first_names ≡ false → list_any (bytes_eq n) (names e.rest) ≡ false
            → scalar_at e n o ≡ None
        gone e None is unnamed unrest = not-named n e.rest unrest
        gone e (Some h) is unnamed unrest =
            absurd (false≢true (sym unnamed ∙ ap (λ m. list_any (bytes_eq m) first_names) (named e.kind n h is)
            ∙ header-first h))

pub value-nests : (name : List ℕ) (ms : List Member) → AllByRecursion (λ (m : Member). IsCompact 119 m.value) ms
    → IfSome (value_named name ms) (IsCompact 119)
value-nests name [] h = tt
value-nests name (m ∷ ms) h =
    elim (bytes_eq name m.name) as (λ b. IfSome (if b then Some m.value else value_named name ms) (IsCompact 119))
    [ true ↦ h.0 | false ↦ value-nests name ms h.1 ]

-- ---- names of further members
pub free-at : (test : List ℕ → Bool) (ms : List Member) (i : ℕ) (m : Member) → list_any test (names ms) ≡ false
    → i < length ms → m ≡ get_or ms i m → test m.name ≡ false
free-at test [] i m free l here = absurd (omega arith)
free-at test (o ∷ os) zero m free l here =
    ap (λ (x : Member). test x.name) here ∙ (or_parts (test o.name) (list_any test (names os)) free).0
free-at test (o ∷ os) (suc i) m free l here =
    free-at test os i m (or_parts (test o.name) (list_any test (names os)) free).1 (omega arith) here

pub names-more : (ms : List Member) (i : ℕ) (m : Member) → i < length ms → m ≡ get_or ms i m
    → names (take i ms) ++ m.name ∷ [] ≡ names (take (suc i) ms)
names-more [] i m l here = absurd (omega arith)
names-more (o ∷ os) zero m l here = ap (λ (x : Member). x.name ∷ []) here
names-more (o ∷ os) (suc i) m l here = ap (λ ns. o.name ∷ ns) (names-more os i m (omega arith) here)

-- a name that is no header name is that of a scalar
other-free : (kind : Kind) (n : List ℕ) → is_header kind n ≡ false → list_any (bytes_eq n) other_names ≡ false
other-free kind n h =
    let head = or_parts (list_any (bytes_eq n) header_names) (list_any (bytes_eq n) (own_names kind)) h in
    let h1 = or_parts (bytes_eq n (codes "id")) _ head.0 in
    let h2 = or_parts (bytes_eq n (codes "type")) _ h1.1 in
    let h3 = or_parts (bytes_eq n (codes "version")) _ h2.1 in
    let h4 = or_parts (bytes_eq n (codes "versionNonce")) _ h3.1 in
    let h5 = or_parts (bytes_eq n (codes "updated")) _ h4.1 in
    let h6 = or_parts (bytes_eq n (codes "isDeleted")) _ h5.1 in
    let h7 = or_parts (bytes_eq n (codes "index")) _ h6.1 in
    let h8 = or_parts (bytes_eq n (codes "groupIds")) _ h7.1 in
    let h9 = or_parts (bytes_eq n (codes "frameId")) _ h8.1 in
    let h10 = or_parts (bytes_eq n (codes "boundElements")) _ h9.1 in
    rw (h1.0, h2.0, h8.0, h10.0, h3.0, h4.0, h5.0) refl

pub rest-free : (kind : Kind) (ms : List Member) → list_any (is_header kind) (names ms) ≡ false
    → list_any (λ name. list_any (bytes_eq name) other_names) (names ms) ≡ false
rest-free kind [] free = refl
rest-free kind (m ∷ ms) free =
    let parts = or_parts (is_header kind m.name) (list_any (is_header kind) (names ms)) free in
    ap (λ b. b || list_any (λ name. list_any (bytes_eq name) other_names) (names ms)) (other-free kind m.name parts.0)
    ∙ rest-free kind ms parts.1
