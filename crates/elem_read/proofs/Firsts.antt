-- The first fault of members is the first part that can't be read.
use Rattle.std.proofs.Common.{◌≡◌, ◌⊎◌, inl, inr, ℕ, suc, ◌<◌, eqb, List, Option, None, Bool, true, false, if◌then◌else◌, Err, codes, refl, sym, ap, subst, ◌∙◌, arith, bytes_eq, lit<}
use Rattle.std.proofs.lemmas.Bool.{cases_lt}
use Rattle.json_text.proofs.CallerLemmas.{bytes_eq-true, bytes_eq-same}
use Rattle.board_base.specs.declared.stop.Stop.{Stop}
use Rattle.board_base.specs.declared.stop.Stop.TheVariants.{Fault, Memory}
use Rattle.elem.specs.declared.kind.Kind as kinds
use Rattle.elem.specs.declared.parts.BoundRef.{BoundRef}
use Rattle.elem.specs.declared.parts.Binding.{Binding as Bind}
use Rattle.elem.specs.ElementValue.{ElementValue}
use Rattle.elem.specs.Forms.{Find, IsText, IsId, IsKindName, IsWholeNumber, IsTruth, IsTextOrNull, IsKeyOrNull, AreTexts, IsListing, IsBindingOrNull}
use Rattle.elem.specs.Said.{is_named, IsOwn, Says}
use Rattle.elem.specs.Texts.{kind_name}
use Rattle.elem.proofs.CallerLemmas.{text-once}
use Rattle.elem_read.specs.Faults.{Lacks, LacksOwn, Fails, place_of, Passes, IsFirst}
use Rattle.elem_read.specs.inner.Parts.{ReadsOr}
use Rattle.elem_read.specs.declared.fault.ElemFault.{ElemFault}
use Rattle.elem_read.specs.declared.fault.ElemFault.TheVariants.{NotObject, Depth, Id, Kind, Version, Nonce, Updated, Index, Deleted, Groups, Frame, Bound, Container, Binding, File}

-- ---- the order of the faults
fault_at : ℕ → ElemFault
fault_at n =
    if eqb n 0 then NotObject
    else (if eqb n 1 then Depth
    else (if eqb n 2 then Id
    else (if eqb n 3 then Kind
    else (if eqb n 4 then Version
    else (if eqb n 5 then Nonce
    else (if eqb n 6 then Updated
    else (if eqb n 7 then Index
    else (if eqb n 8 then Deleted
    else (if eqb n 9 then Groups
    else (if eqb n 10 then Frame
    else (if eqb n 11 then Bound
    else (if eqb n 12 then Container
    else (if eqb n 13 then Binding
    else File)))))))))))))

fault_back : (fault : ElemFault) → fault_at (place_of fault) ≡ fault
unfolding fault_at
fault_back NotObject = refl
fault_back Depth = refl
fault_back Id = refl
fault_back Kind = refl
fault_back Version = refl
fault_back Nonce = refl
fault_back Updated = refl
fault_back Index = refl
fault_back Deleted = refl
fault_back Groups = refl
fault_back Frame = refl
fault_back Bound = refl
fault_back Container = refl
fault_back Binding = refl
fault_back File = refl

pub place-once : (a b : ElemFault) → place_of a ≡ place_of b → a ≡ b
place-once a b e = sym (fault_back a) ∙ ap fault_at e ∙ fault_back b

below-more : (m n : ℕ) → m < suc n → (m < n) ⊎ (m ≡ n)
below-more m n h = elim (cases_lt m n) [ inl below ↦ inl below | inr above ↦ inr (omega arith) ]

-- one fault more that doesn't come
pub passes-next : (find : Find) (n : ℕ) (fault : ElemFault) → place_of fault ≡ n → Passes n find
    → (Fails fault find → ⊥) → Passes (suc n) find
passes-next find n fault at before none other below comes =
    elim (below-more (place_of other) n below) [
      | inl less ↦ before other less comes
      | inr same ↦ none (subst (λ f. Fails f find) (place-once other fault (same ∙ sym at)) comes)
    ]

pub passes-members : (find : Find) → Passes 2 find
passes-members find = passes-next find 1 Depth refl
    (passes-next find 0 NotObject refl (λ other below. absurd (omega arith)) (λ h. h)) (λ h. h)

-- two first faults are one
pub first-once : (find : Find) (a b : ElemFault) → IsFirst find a → IsFirst find b → a ≡ b
first-once find a b one two =
    elim (cases_lt (place_of a) (place_of b)) [
      | inl less ↦ absurd (two.first a less one.comes)
      | inr above ↦ elim (cases_lt (place_of b) (place_of a)) [
        | inl less ↦ absurd (one.first b less two.comes)
        | inr below ↦ place-once a b (omega arith)
      ]
    ]

-- ---- a part that can't be read
pub failed : {A B : Type 0} (P : A → Type 0) (Q : B → Type 0) (known fault : ElemFault) (stop : Stop ElemFault)
    → ReadsOr P Q known (Err stop) → stop ≡ Fault fault → (fault ≡ known) × Lacks Q
failed P Q known fault (Fault other) is e = let same : fault ≡ other = cc in (same ∙ is.0, is.1)
failed P Q known fault Memory is e = cc

pub first-at : {A B : Type 0} (find : Find) (P : A → Type 0) (Q : B
    → Type 0) (known fault : ElemFault) (stop : Stop ElemFault) → ReadsOr P Q known (Err stop) → stop ≡ Fault fault
    → Passes (place_of known) find → (Lacks Q → Fails known find) → IsFirst find fault
first-at find P Q known fault stop is e before fails =
    let both = failed P Q known fault stop is e in
    subst (IsFirst find) (sym both.0) (record { comes = fails both.1; first = before })

-- ---- the parts of one kind alone
-- the kind of this name
name-held : (found : Option (List ℕ)) (name : List ℕ) (kind : kinds.Kind) → IsText found name → IsKindName found kind
    → is_named name kind ≡ true
name-held found name kind text is =
    ap (bytes_eq name) (sym (text-once found name (kind_name kind) text is.0)) ∙ bytes_eq-same name

name-told : (found : Option (List ℕ)) (name : List ℕ) (kind : kinds.Kind) → IsKindName found kind
    → is_named name kind ≡ true → IsText found name
name-told found name kind is same = subst (IsText found) (sym (bytes_eq-true name (kind_name kind) same)) is.0

own-form : {A : Type 0} (own : Bool) (IsForm : Option (List ℕ) → Option A
    → Type 0) (found : Option (List ℕ)) (part : Option A) → own ≡ true → IsOwn own IsForm found part → IsForm found part
own-form true IsForm found part e is = is
own-form false IsForm found part e is = cc

own-lacks : {A : Type 0} (own : Bool) (IsForm : Option (List ℕ) → Option A → Type 0) (found : Option (List ℕ))
    → Lacks (IsOwn own IsForm found) → (own ≡ true) × Lacks (IsForm found)
own-lacks true IsForm found lacks = (refl, lacks)
own-lacks false IsForm found lacks = absurd (lacks None refl)

-- where the part of the kind is read, it isn't faulty
own-held : {A : Type 0} (find : Find) (name member : List ℕ) (IsForm : Option (List ℕ) → Option A
    → Type 0) (kind : kinds.Kind) (part : Option A) → IsKindName (find (codes "type")) kind
    → IsOwn (is_named name kind) IsForm (find member) part → LacksOwn find name IsForm member → ⊥
own-held find name member IsForm kind part is read lacks =
    lacks.1 part (own-form (is_named name kind) IsForm (find member) part
    (name-held (find (codes "type")) name kind lacks.0 is) read)

pub own-fails : {A : Type 0} (find : Find) (name member : List ℕ) (IsForm : Option (List ℕ) → Option A
    → Type 0) (kind : kinds.Kind) → IsKindName (find (codes "type")) kind
    → Lacks (IsOwn (is_named name kind) IsForm (find member)) → LacksOwn find name IsForm member
own-fails find name member IsForm kind is lacks =
    let both = own-lacks (is_named name kind) IsForm (find member) lacks in
    (name-told (find (codes "type")) name kind is both.0, both.1)

-- ---- as far as the members are read
module _ (find : Find) where
  pub after-id : (id : List ℕ) → IsId (find (codes "id")) id → Passes 3 find
  after-id id is = passes-next find 2 Id refl (passes-members find) (λ lacks. lacks id is)

  pub after-kind : (kind : kinds.Kind) → IsKindName (find (codes "type")) kind → Passes 3 find → Passes 4 find
  after-kind kind is before = passes-next find 3 Kind refl before (λ lacks. lacks (kind_name kind) is.0)

  pub after-version : (n : ℕ) → IsWholeNumber (find (codes "version")) n → Passes 4 find → Passes 5 find
  after-version n is before = passes-next find 4 Version refl before (λ lacks. lacks n is)

  pub after-nonce : (n : ℕ) → IsWholeNumber (find (codes "versionNonce")) n → Passes 5 find → Passes 6 find
  after-nonce n is before = passes-next find 5 Nonce refl before (λ lacks. lacks n is)

  pub after-updated : (n : ℕ) → IsWholeNumber (find (codes "updated")) n → Passes 6 find → Passes 7 find
  after-updated n is before = passes-next find 6 Updated refl before (λ lacks. lacks n is)

  pub after-index : (key : Option (List ℕ)) → IsKeyOrNull (find (codes "index")) key → Passes 7 find → Passes 8 find
  after-index key is before = passes-next find 7 Index refl before (λ lacks. lacks key is)

  pub after-deleted : (truth : Bool) → IsTruth (find (codes "isDeleted")) truth → Passes 8 find → Passes 9 find
  after-deleted truth is before = passes-next find 8 Deleted refl before (λ lacks. lacks truth is)

  pub after-groups : (texts : List (List ℕ)) → AreTexts (find (codes "groupIds")) texts → Passes 9 find → Passes 10 find
  after-groups texts is before = passes-next find 9 Groups refl before (λ lacks. lacks texts is)

  pub after-frame : (text : Option (List ℕ)) → IsTextOrNull (find (codes "frameId")) text → Passes 10 find
      → Passes 11 find
  after-frame text is before = passes-next find 10 Frame refl before (λ lacks. lacks text is)

  pub after-bound : (entries : List BoundRef) → IsListing (find (codes "boundElements")) entries → Passes 11 find
      → Passes 12 find
  after-bound entries is before = passes-next find 11 Bound refl before (λ lacks. lacks entries is)

  pub after-container : (kind : kinds.Kind) (text : Option (List ℕ)) → IsKindName (find (codes "type")) kind
      → IsOwn (is_named (codes "text") kind) IsTextOrNull (find (codes "containerId")) text
      → Passes 12 find → Passes 13 find
  after-container kind text is read before =
      passes-next find 12 Container refl before (own-held find (codes "text") (codes "containerId") IsTextOrNull kind
      text is read)

  pub after-bindings : (kind : kinds.Kind) (start end : Option Bind) → IsKindName (find (codes "type")) kind
      → IsOwn (is_named (codes "arrow") kind) IsBindingOrNull (find (codes "startBinding")) start
      → IsOwn (is_named (codes "arrow") kind) IsBindingOrNull (find (codes "endBinding")) end → Passes 13 find
      → Passes 14 find
  after-bindings kind start end is first second before = passes-next find 13 Binding refl before none
    where
      none : Fails Binding find → ⊥
      none (inl lacks) = own-held find (codes "arrow") (codes "startBinding") IsBindingOrNull kind start is first lacks
      none (inr lacks) = own-held find (codes "arrow") (codes "endBinding") IsBindingOrNull kind end is second lacks

  pub after-file : (kind : kinds.Kind) (text : Option (List ℕ)) → IsKindName (find (codes "type")) kind
      → IsOwn (is_named (codes "image") kind) IsTextOrNull (find (codes "fileId")) text
      → Passes 14 find → Passes 15 find
  after-file kind text is read before =
      passes-next find 14 File refl before (own-held find (codes "image") (codes "fileId") IsTextOrNull kind text is
      read)

within : (fault : ElemFault) → place_of fault < 15
within NotObject = lit< tt
within Depth = lit< tt
within Id = lit< tt
within Kind = lit< tt
within Version = lit< tt
within Nonce = lit< tt
within Updated = lit< tt
within Index = lit< tt
within Deleted = lit< tt
within Groups = lit< tt
within Frame = lit< tt
within Bound = lit< tt
within Container = lit< tt
within Binding = lit< tt
within File = lit< tt

-- where the members say an element, none of them is faulty
pub faultless : (find : Find) (e : ElementValue) → Says find e → (fault : ElemFault) → Fails fault find → ⊥
faultless find e is fault =
    after-file find e.kind e.file is.kind is.file
    (after-bindings find e.kind e.start_binding e.end_binding is.kind is.start_binding is.end_binding
    (after-container find e.kind e.container is.kind is.container
    (after-bound find e.bound is.bound
    (after-frame find e.frame is.frame
    (after-groups find e.groups is.groups
    (after-deleted find e.deleted is.deleted
    (after-index find e.index is.index
    (after-updated find e.updated is.updated
    (after-nonce find e.nonce is.nonce
    (after-version find e.version is.version
    (after-kind find e.kind is.kind
    (after-id find e.id is.id))))))))))))
    fault (within fault)
