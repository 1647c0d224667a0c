-- What parts say of the elements that they stand for.
use Rattle.std.proofs.Common.{◌≡◌, ℕ, Bool, true, false, cond, ◌||◌, List, [], ◌∷◌, ◌++◌, filter, map, Option, Some, None, IfSome, inl, inr, codes, bytes_eq, if◌then◌else◌, refl, sym, ap, ◌∙◌, ◌⊎◌}
use Rattle.std.specs.List.{AllByRecursion, list_any}
use Rattle.std.proofs.lemmas.Bool.{cases_Bool, false≢true}
use Rattle.std.proofs.lemmas.Option.{same_Some}
use Rattle.std.proofs.Math.Bool.{or-true}
use Rattle.std.specs.Cmp.Lexicographic.{nat_list_eq_equiv}
use Rattle.json_text.specs.declared.text.Member.{Member}
use Rattle.json_text.proofs.CallerLemmas.{bytes_eq-true, bytes_eq-same, bytes_eq-apart}
use Rattle.elem.specs.declared.kind.Kind.{Kind}
use Rattle.elem.specs.declared.kind.Kind.TheVariants.{Rectangle, Diamond, Ellipse, Arrow, Line, Freedraw, Text, Image, Frame, Magicframe, Iframe, Embeddable, Other}
use Rattle.elem.specs.declared.parts.BoundRef.{BoundRef}
use Rattle.elem.specs.declared.parts.Binding.{Binding}
use Rattle.elem.specs.ElementValue.{ElementValue}
use Rattle.elem.specs.Facts.{IsElement, IsBinding, is_header, header_names, own_names, names}
use Rattle.elem.specs.Order.{unstamped}
use Rattle.elem.specs.Texts.{text_or_null, binding_text}
use Rattle.delta.specs.declared.change.Change.{Change}
use Rattle.delta.specs.declared.change.Change.TheVariants.{Scalar, Groups, Bound}
use Rattle.delta.specs.declared.header.Header.{Header}
use Rattle.delta.specs.declared.header.Header.TheVariants as headers
use Rattle.delta.specs.Applied.{IsApplied, scalar_after, groups_after, bound_after}
use Rattle.delta.specs.Delta.{Delta}
use Rattle.elem.specs.Listings.{same_listing_entry-exact, same_listing_entry-same, same_listing_entry}
use Rattle.elem.proofs.CallerLemmas.{each-list_any, list_any-each}
use Rattle.delta.specs.Facts.{name_of}
use Rattle.delta.specs.Headers.{own_header, header_named, scalar_text, value_named, scalar_at, scalar_of}
use Rattle.json_text.specs.FirstOccurrences.{first_occurrences}
use Rattle.delta.specs.Joined.{are_same, joined, stays, is_gained}
use Rattle.delta.specs.Parts.{change_of, scalar_change, groups_change, bound_change, scalars_same, is_list, PartStandsFor, inverted, inverse}
use Rattle.delta.specs.Undone.{undone_scalar, undone_list, IsUndone}
use Rattle.delta.proofs.HeaderLaws.{header_name, named, own-named}
use Rattle.delta.proofs.Injective.{text-same, truth-same, binding-same}
use Rattle.delta.proofs.JoinLaws.{are_same-exact, are_same-same}
use Rattle.delta.proofs.Placing.{same_items}
use Rattle.delta.proofs.RestLaws.{risen, same_values}
use Rattle.delta.proofs.ToldLaws.{not-named}
use Rattle.delta.proofs.ChangeLaws.{name-inverted}

-- ---- inverting

inverted-twice : (c : Change) → inverted (inverted c) ≡ c
inverted-twice (Scalar name before after) = refl
inverted-twice (Groups before after) = refl
inverted-twice (Bound before after) = refl

all-twice : (cs : List Change) → map inverted (map inverted cs) ≡ cs
all-twice [] = refl
all-twice (c ∷ cs) = λ i. inverted-twice c i ∷ all-twice cs i

pub inverse-twice : (part : Delta) → inverse (inverse part) ≡ part
inverse-twice part =
    ap (λ changes. let whole : Delta = record part { changes = changes } in whole) (all-twice part.changes)

pub turned : Option Change → Option Change
turned None = None
turned (Some c) = Some (inverted c)

pub change-inverted : (cs : List Change) (n : List ℕ) → change_of (map inverted cs) n ≡ turned (change_of cs n)
unfolding turned
change-inverted [] n = refl
change-inverted (c ∷ cs) n =
    ap (λ m. cond (bytes_eq n m) (Some (inverted c)) (change_of (map inverted cs) n)) (name-inverted c)
    ∙ (elim (bytes_eq n (name_of c)) as (λ b. cond b (Some (inverted c)) (change_of (map inverted cs) n)
    ≡ turned (cond b (Some c) (change_of cs n))) [
      | true ↦ refl
      | false ↦ change-inverted cs n
    ])

scalars_same-turned : (a b : Option (List ℕ)) → scalars_same a b ≡ scalars_same b a
scalars_same-turned None None = refl
scalars_same-turned None (Some b) = refl
scalars_same-turned (Some a) None = refl
scalars_same-turned (Some a) (Some b) = nat_list_eq_equiv.symm a b

lists_same-turned : {T : Type 0} (same : T → T → Bool) → ((a b : T) → same a b ≡ true → a ≡ b)
    → ((a : T) → same a a ≡ true) → (a b : List T) → are_same same a b ≡ are_same same b a
lists_same-turned same exact itself a b =
    elim (cases_Bool (are_same same a b)) [
      | inl t ↦
          let e = are_same-exact same exact a b t in
          t ∙ sym (ap (are_same same b) e ∙ are_same-same same itself b)
      | inr f ↦ elim (cases_Bool (are_same same b a)) [
        | inl t ↦
            let e = are_same-exact same exact b a t in
            absurd (false≢true (sym f ∙ ap (are_same same a) e ∙ are_same-same same itself a))
        | inr g ↦ f ∙ sym g
      ]
    ]

pub scalar-turned : (name : List ℕ) (b a : Option (List ℕ))
    → turned (scalar_change name b a) ≡ scalar_change name a b
unfolding turned
scalar-turned name b a =
    (elim (scalars_same b a) as (λ same. turned (if same then None else Some (Scalar name b a))
    ≡ (if same then None else Some (Scalar name a b))) [ true ↦ refl | false ↦ refl ])
    ∙ ap (λ same. if same then None else Some (Scalar name a b)) (scalars_same-turned b a)

pub groups-turned : (b a : List (List ℕ)) → turned (groups_change b a) ≡ groups_change a b
unfolding turned
groups-turned b a =
    (elim (are_same bytes_eq b a) as (λ same. turned (if same then None else Some (Groups b a))
    ≡ (if same then None else Some (Groups a b))) [ true ↦ refl | false ↦ refl ])
    ∙ ap (λ same. if same then None else Some (Groups a b))
    (lists_same-turned bytes_eq bytes_eq-true bytes_eq-same b a)

pub bound-turned : (b a : List BoundRef) → turned (bound_change b a) ≡ bound_change a b
unfolding turned
bound-turned b a =
    (elim (are_same same_listing_entry b a) as (λ same. turned (if same then None else Some (Bound b a))
    ≡ (if same then None else Some (Bound a b))) [ true ↦ refl | false ↦ refl ])
    ∙ ap (λ same. if same then None else Some (Bound a b))
    (lists_same-turned same_listing_entry same_listing_entry-exact same_listing_entry-same b a)

-- a part of two elements is one alone
pub part-once : (p q : Delta) (before after : ElementValue) → PartStandsFor p before after
    → PartStandsFor q before after → p ≡ q
part-once p q before after first second =
    let id = first.id ∙ sym second.id in
    let kind = first.kind ∙ sym second.kind in
    let changes = same_items name_of p.changes q.changes first.rise second.rise each in
    λ i. record { id = id i; kind = kind i; changes = changes i }
  where
    each : (n : List ℕ) → change_of p.changes n ≡ change_of q.changes n
    each n = elim (cases_Bool (bytes_eq n (codes "groupIds"))) [
      | inl t ↦
          let is = bytes_eq-true n (codes "groupIds") t in
          ap (change_of p.changes) is ∙ first.groups ∙ sym (ap (change_of q.changes) is ∙ second.groups)
      | inr f ↦ elim (cases_Bool (bytes_eq n (codes "boundElements"))) [
        | inl t ↦
            let is = bytes_eq-true n (codes "boundElements") t in
            ap (change_of p.changes) is ∙ first.bound ∙ sym (ap (change_of q.changes) is ∙ second.bound)
        | inr g ↦
            let scalar = ap (λ b. b || bytes_eq n (codes "boundElements")) f ∙ g in
            first.scalars n scalar ∙ sym (second.scalars n scalar)
      ]
    ]

-- ---- the scalars tell an element of an id and a kind, with its lists

own-is : (kind : Kind) (n : List ℕ) (h : Header) → own_header kind n ≡ Some h
    → list_any (bytes_eq n) (own_names kind) ≡ true
own-is Text n h e = ap (λ m. list_any (bytes_eq m) (own_names Text)) (own-named Text n h e) ∙ here h e
  where
    here : (h : Header) → own_header Text n ≡ Some h → list_any (bytes_eq (header_name h)) (own_names Text) ≡ true
    here h e = elim (bytes_eq n (codes "containerId")) as (λ b. (if b then Some headers.Container else None) ≡ Some h
        → list_any (bytes_eq (header_name h)) (own_names Text) ≡ true) [
          | true ↦ λ e. ap (λ k. list_any (bytes_eq (header_name k)) (own_names Text))
              (sym (same_Some headers.Container h e))
          | false ↦ λ e. absurd (cc)
        ] e
own-is Image n h e = ap (λ m. list_any (bytes_eq m) (own_names Image)) (own-named Image n h e) ∙ here h e
  where
    here : (h : Header) → own_header Image n ≡ Some h → list_any (bytes_eq (header_name h)) (own_names Image) ≡ true
    here h e = elim (bytes_eq n (codes "fileId")) as (λ b. (if b then Some headers.File else None) ≡ Some h
        → list_any (bytes_eq (header_name h)) (own_names Image) ≡ true) [
          | true ↦ λ e. ap (λ k. list_any (bytes_eq (header_name k)) (own_names Image))
              (sym (same_Some headers.File h e))
          | false ↦ λ e. absurd (cc)
        ] e
own-is Arrow n h e = ap (λ m. list_any (bytes_eq m) (own_names Arrow)) (own-named Arrow n h e) ∙ here h e
  where
    here : (h : Header) → own_header Arrow n ≡ Some h → list_any (bytes_eq (header_name h)) (own_names Arrow) ≡ true
    here h e = elim (bytes_eq n (codes "startBinding")) as
        (λ b. (if b then Some headers.StartBinding
        else (if bytes_eq n (codes "endBinding") then Some headers.EndBinding
        else None)) ≡ Some h → list_any (bytes_eq (header_name h)) (own_names Arrow) ≡ true) [
          | true ↦ λ e. ap (λ k. list_any (bytes_eq (header_name k)) (own_names Arrow))
              (sym (same_Some headers.StartBinding h e))
          | false ↦ elim (bytes_eq n (codes "endBinding")) as (λ b. (if b then Some headers.EndBinding else None)
              ≡ Some h
              → list_any (bytes_eq (header_name h)) (own_names Arrow) ≡ true) [
                | true ↦ λ e. ap (λ k. list_any (bytes_eq (header_name k)) (own_names Arrow))
                    (sym (same_Some headers.EndBinding h e))
                | false ↦ λ e. absurd (cc)
              ]
        ] e
own-is Rectangle n h e = absurd (cc)
own-is Diamond n h e = absurd (cc)
own-is Ellipse n h e = absurd (cc)
own-is Line n h e = absurd (cc)
own-is Freedraw n h e = absurd (cc)
own-is Frame n h e = absurd (cc)
own-is Magicframe n h e = absurd (cc)
own-is Iframe n h e = absurd (cc)
own-is Embeddable n h e = absurd (cc)
own-is (Other name) n h e = absurd (cc)

header-is : (kind : Kind) (n : List ℕ) (h : Header) → header_named kind n ≡ Some h → is_header kind n ≡ true
header-is kind n h e =
    elim (cases_Bool (bytes_eq n (codes "isDeleted"))) [
      | inl t ↦ ap (is_header kind) (bytes_eq-true n (codes "isDeleted") t)
      | inr f ↦ elim (cases_Bool (bytes_eq n (codes "index"))) [
        | inl t ↦ ap (is_header kind) (bytes_eq-true n (codes "index") t)
        | inr g ↦ elim (cases_Bool (bytes_eq n (codes "frameId"))) [
          | inl t ↦ ap (is_header kind) (bytes_eq-true n (codes "frameId") t)
          | inr k ↦ ap (λ b. list_any (bytes_eq n) header_names || b) (own-is kind n h (rw (f, g, k) at e))
              ∙ or-true (list_any (bytes_eq n) header_names)
        ]
      ]
    ]

-- a header name is no name of a further member
none-header : (kind : Kind) (n : List ℕ) (ms : List Member) → is_header kind n ≡ true
    → list_any (is_header kind) (names ms) ≡ false → value_named n ms ≡ None
none-header kind n ms is free =
    not-named n ms (list_any-each (bytes_eq n) ms (all ms (each-list_any (is_header kind) ms free)))
  where
    all : (ms : List Member) → AllByRecursion (λ (m : Member). is_header kind m.name ≡ false) ms
        → AllByRecursion (λ (m : Member). bytes_eq n m.name ≡ false) ms
    all [] h = tt
    all (m ∷ ms) h =
        (bytes_eq-apart n m.name (λ e. false≢true (sym h.0 ∙ ap (is_header kind) (sym e) ∙ is)), all ms h.1)

header-apart : (n : List ℕ) (h : Header) → is_list n ≡ true → n ≡ header_name h → ⊥
header-apart n headers.Deleted l e = false≢true (sym (ap is_list e) ∙ l)
header-apart n headers.Index l e = false≢true (sym (ap is_list e) ∙ l)
header-apart n headers.Frame l e = false≢true (sym (ap is_list e) ∙ l)
header-apart n headers.Container l e = false≢true (sym (ap is_list e) ∙ l)
header-apart n headers.StartBinding l e = false≢true (sym (ap is_list e) ∙ l)
header-apart n headers.EndBinding l e = false≢true (sym (ap is_list e) ∙ l)
header-apart n headers.File l e = false≢true (sym (ap is_list e) ∙ l)

which-list : (n : List ℕ) → is_list n ≡ true → (n ≡ codes "groupIds") ⊎ (n ≡ codes "boundElements")
which-list n l = elim (cases_Bool (bytes_eq n (codes "groupIds"))) [
  | inl t ↦ inl (bytes_eq-true n (codes "groupIds") t)
  | inr f ↦ inr (bytes_eq-true n (codes "boundElements") (sym (ap (λ b. b || bytes_eq n (codes "boundElements")) f)
      ∙ l))
]

list-header : (kind : Kind) (n : List ℕ) → is_list n ≡ true → is_header kind n ≡ true
list-header kind n l = elim (which-list n l) [ inl e ↦ ap (is_header kind) e | inr e ↦ ap (is_header kind) e ]

-- a list is no scalar
list-scalar : (e : ElementValue) (n : List ℕ) → IsElement e → is_list n ≡ true → scalar_of e n ≡ None
list-scalar e n is l = at (header_named e.kind n) refl
  where
    at : (o : Option Header) → header_named e.kind n ≡ o → scalar_at e n o ≡ None
    at None h = none-header e.kind n e.rest (list-header e.kind n l) is.free
    at (Some k) h = absurd (header-apart n k l (named e.kind n k h))

module _ (a b : ElementValue) (is : IsElement a) (is' : IsElement b) (kind : a.kind ≡ b.kind) (scalars : (n : List ℕ)
    → scalar_of a n ≡ scalar_of b n) where
  at-kind : (k : Kind) (n : List ℕ) (h : Header) → a.kind ≡ k → header_named k n ≡ Some h
      → scalar_text a h ≡ scalar_text b h
  at-kind k n h e own =
      same_Some _ _ (sym (ap (scalar_at a n) (ap (λ k. header_named k n) e ∙ own)) ∙ scalars n
      ∙ ap (scalar_at b n) (ap (λ k. header_named k n) (sym kind ∙ e) ∙ own))

  texts-same : (k : Kind) (n : List ℕ) (h : Header) (x y : Option (List ℕ)) → header_named k n ≡ Some h
      → IfSome x (λ id. a.kind ≡ k) → IfSome y (λ id. b.kind ≡ k)
      → (scalar_text a h ≡ scalar_text b h → text_or_null x ≡ text_or_null y) → x ≡ y
  texts-same k n h None None own p q f = refl
  texts-same k n h (Some x) y own p q f = text-same (Some x) y (f (at-kind k n h p own))
  texts-same k n h None (Some y) own p q f = text-same None (Some y) (f (at-kind k n h (kind ∙ q) own))

  bindings-same : (n : List ℕ) (h : Header) (x y : Option Binding) → header_named Arrow n ≡ Some h
      → IfSome x (λ binding. (a.kind ≡ Arrow) × IsBinding binding)
      → IfSome y (λ binding. (b.kind ≡ Arrow) × IsBinding binding)
      → (scalar_text a h ≡ scalar_text b h → binding_text x ≡ binding_text y) → x ≡ y
  bindings-same n h None None own p q f = refl
  bindings-same n h (Some x) None own p q f = binding-same (Some x) None p.1 tt (f (at-kind Arrow n h p.0 own))
  bindings-same n h (Some x) (Some y) own p q f =
      binding-same (Some x) (Some y) p.1 q.1 (f (at-kind Arrow n h p.0 own))
  bindings-same n h None (Some y) own p q f =
      binding-same None (Some y) tt q.1 (f (at-kind Arrow n h (kind ∙ q.0) own))

  rests-same : a.rest ≡ b.rest
  rests-same = same_values a.rest b.rest (risen a.rest is.rise) (risen b.rest is'.rise)
      (λ n. each n (header_named a.kind n) refl)
    where
      each : (n : List ℕ) (o : Option Header) → header_named a.kind n ≡ o
          → value_named n a.rest ≡ value_named n b.rest
      each n None h =
          sym (ap (scalar_at a n) h) ∙ scalars n ∙ ap (scalar_at b n) (ap (λ k. header_named k n) (sym kind) ∙ h)
      each n (Some k) h =
          let header = header-is a.kind n k h in
          none-header a.kind n a.rest header is.free
          ∙ sym (none-header b.kind n b.rest (ap (λ k. is_header k n) (sym kind) ∙ header) is'.free)

  pub same-unstamped : a.id ≡ b.id → a.groups ≡ b.groups → a.bound ≡ b.bound → unstamped a ≡ unstamped b
  same-unstamped id groups bound =
      let deleted = truth-same a.deleted b.deleted (at-kind a.kind (codes "isDeleted") headers.Deleted refl refl) in
      let index = text-same a.index b.index (at-kind a.kind (codes "index") headers.Index refl refl) in
      let frame = text-same a.frame b.frame (at-kind a.kind (codes "frameId") headers.Frame refl refl) in
      let container =
      texts-same Text (codes "containerId") headers.Container a.container b.container refl is.container
      is'.container (λ e. e) in
      let file = texts-same Image (codes "fileId") headers.File a.file b.file refl is.file is'.file (λ e. e) in
      let start = bindings-same (codes "startBinding") headers.StartBinding a.start_binding b.start_binding refl
      is.start_binding is'.start_binding (λ e. e) in
      let finish =
      bindings-same (codes "endBinding") headers.EndBinding a.end_binding b.end_binding refl is.end_binding
      is'.end_binding (λ e. e) in
      λ i. record {
        id = id i;
        kind = kind i;
        version = 0;
        nonce = 0;
        updated = 0;
        deleted = deleted i;
        index = index i;
        groups = groups i;
        frame = frame i;
        bound = bound i;
        container = container i;
        start_binding = start i;
        end_binding = finish i;
        file = file i;
        rest = rests-same i;
      }

-- ---- changes and their inverses
scalars-exact : (a b : Option (List ℕ)) → scalars_same a b ≡ true → a ≡ b
scalars-exact None None h = refl
scalars-exact None (Some b) h = absurd (false≢true h)
scalars-exact (Some a) None h = absurd (false≢true h)
scalars-exact (Some a) (Some b) h = ap Some (bytes_eq-true a b h)

scalars-itself : (a : Option (List ℕ)) → scalars_same a a ≡ true
scalars-itself None = refl
scalars-itself (Some a) = bytes_eq-same a

scalar-forward : (n : List ℕ) (b a : Option (List ℕ)) → scalar_after (scalar_change n b a) b ≡ a
scalar-forward n b a = elim (cases_Bool (scalars_same b a)) [
  | inl t ↦ ap (λ same. scalar_after (if same then None else Some (Scalar n b a)) b) t ∙ scalars-exact b a t
  | inr f ↦ ap (λ same. scalar_after (if same then None else Some (Scalar n b a)) b) f
]

scalar-undone : (n : List ℕ) (b a now : Option (List ℕ)) → scalar_after (turned (scalar_change n b a)) now
    ≡ undone_scalar b a now
unfolding turned
scalar-undone n b a now = elim (scalars_same b a) as
    (λ same. scalar_after (turned (if same then None else Some (Scalar n b a))) now ≡ (if same then now else b))
    [ true ↦ refl | false ↦ refl ]

groups-undone : (b a now : List (List ℕ)) → groups_after (turned (groups_change b a)) now
    ≡ undone_list bytes_eq b a now
unfolding turned
groups-undone b a now = elim (are_same bytes_eq b a) as
    (λ same. groups_after (turned (if same then None else Some (Groups b a))) now
    ≡ (if same then now else joined bytes_eq a b now)) [ true ↦ refl | false ↦ refl ]

bound-undone : (b a now : List BoundRef) → bound_after (turned (bound_change b a)) now
    ≡ undone_list same_listing_entry b a now
unfolding turned
bound-undone b a now = elim (are_same same_listing_entry b a) as
    (λ same. bound_after (turned (if same then None else Some (Bound b a))) now
    ≡ (if same then now else joined same_listing_entry a b now)) [ true ↦ refl | false ↦ refl ]

-- a list is no scalar, and stays none
groups-no_scalar : (b a : List (List ℕ)) (now : Option (List ℕ)) → scalar_after (turned (groups_change b a)) now ≡ now
unfolding turned
groups-no_scalar b a now = elim (are_same bytes_eq b a) as
    (λ same. scalar_after (turned (if same then None else Some (Groups b a))) now ≡ now) [ true ↦ refl | false ↦ refl ]

bound-no_scalar : (b a : List BoundRef) (now : Option (List ℕ)) → scalar_after (turned (bound_change b a)) now ≡ now
unfolding turned
bound-no_scalar b a now = elim (are_same same_listing_entry b a) as
    (λ same. scalar_after (turned (if same then None else Some (Bound b a))) now ≡ now) [ true ↦ refl | false ↦ refl ]

pub undone_scalar-now : (b a : Option (List ℕ)) → undone_scalar b a a ≡ b
undone_scalar-now b a = elim (cases_Bool (scalars_same b a)) [
  | inl t ↦ ap (λ same. if same then a else b) t ∙ sym (scalars-exact b a t)
  | inr f ↦ ap (λ same. if same then a else b) f
]

module _ {T : Type 0} (same : T → T → Bool) (exact : (a b : T) → same a b ≡ true → a ≡ b) (itself : (a : T)
    → same a a ≡ true) where
  joined-now : (b a : List T) → joined same b a b ≡ a
  joined-now b a = ap (λ t. if t then a else filter (stays same b a) b
      ++ first_occurrences same (filter (is_gained same b b) a)) (are_same-same same itself b)

  list-forward : (b a : List T) → (if are_same same b a then b else joined same b a b) ≡ a
  list-forward b a = elim (cases_Bool (are_same same b a)) [
    | inl t ↦ ap (λ s. if s then b else joined same b a b) t ∙ are_same-exact same exact b a t
    | inr f ↦ ap (λ s. if s then b else joined same b a b) f ∙ joined-now b a
  ]

  pub undone_list-now : (b a : List T) → undone_list same b a a ≡ b
  undone_list-now b a = elim (cases_Bool (are_same same b a)) [
    | inl t ↦ ap (λ s. if s then a else joined same a b a) t ∙ sym (are_same-exact same exact b a t)
    | inr f ↦ ap (λ s. if s then a else joined same a b a) f ∙ joined-now a b
  ]

groups-forward : (b a : List (List ℕ)) → groups_after (groups_change b a) b ≡ a
groups-forward b a =
    (elim (are_same bytes_eq b a) as (λ s. groups_after (if s then None else Some (Groups b a)) b
    ≡ (if s then b else joined bytes_eq b a b)) [ true ↦ refl | false ↦ refl ])
    ∙ list-forward bytes_eq bytes_eq-true bytes_eq-same b a

bound-forward : (b a : List BoundRef) → bound_after (bound_change b a) b ≡ a
bound-forward b a =
    (elim (are_same same_listing_entry b a) as (λ s. bound_after (if s then None else Some (Bound b a)) b
    ≡ (if s then b else joined same_listing_entry b a b)) [ true ↦ refl | false ↦ refl ])
    ∙ list-forward same_listing_entry same_listing_entry-exact same_listing_entry-same b a

-- ---- the laws
module _ (part : Delta) (before after : ElementValue) (is : IsElement before) (is' : IsElement after)
    (stands : PartStandsFor part before after) where
  groups-inverted : change_of (map inverted part.changes) (codes "groupIds")
      ≡ turned (groups_change before.groups after.groups)
  groups-inverted = change-inverted part.changes (codes "groupIds") ∙ ap turned stands.groups

  bound-inverted : change_of (map inverted part.changes) (codes "boundElements")
      ≡ turned (bound_change before.bound after.bound)
  bound-inverted = change-inverted part.changes (codes "boundElements") ∙ ap turned stands.bound

  scalar-inverted : (n : List ℕ) (now : Option (List ℕ)) → is_list n ≡ false
      → scalar_after (change_of (map inverted part.changes) n) now
      ≡ undone_scalar (scalar_of before n) (scalar_of after n) now
  scalar-inverted n now f =
      ap (λ o. scalar_after o now) (change-inverted part.changes n ∙ ap turned (stands.scalars n f))
      ∙ scalar-undone n (scalar_of before n) (scalar_of after n) now

  list-stays : (n : List ℕ) (now : Option (List ℕ)) → is_list n ≡ true
      → scalar_after (change_of (map inverted part.changes) n) now ≡ now
  list-stays n now l = elim (which-list n l) [
    | inl g ↦ ap (λ m. scalar_after (change_of (map inverted part.changes) m) now) g
        ∙ ap (λ o. scalar_after o now) groups-inverted ∙ groups-no_scalar before.groups after.groups now
    | inr b ↦ ap (λ m. scalar_after (change_of (map inverted part.changes) m) now) b
        ∙ ap (λ o. scalar_after o now) bound-inverted ∙ bound-no_scalar before.bound after.bound now
  ]

  pub undone-from : (now result : ElementValue) → IsElement now → IsElement result
      → IsApplied (inverse part) now result
      → IsUndone before after now result
  undone-from now result isnow isresult applied = record {
    undone = λ kind.
        let changed = applied.changed (stands.kind ∙ kind) in
        record {
          stamp = changed.stamp;
          scalars = λ n. elim (cases_Bool (is_list n)) [
            | inl t ↦
                list-scalar result n isresult t
                ∙ sym (ap (λ o. undone_scalar o (scalar_of after n) (scalar_of now n)) (list-scalar before n is t)
                ∙ ap (λ o. undone_scalar None o (scalar_of now n)) (list-scalar after n is' t)
                ∙ list-scalar now n isnow t)
            | inr f ↦ changed.scalars n ∙ scalar-inverted n (scalar_of now n) f
          ];
          groups = changed.groups ∙ ap (λ o. groups_after o now.groups) groups-inverted
              ∙ groups-undone before.groups after.groups now.groups;
          bound = changed.bound ∙ ap (λ o. bound_after o now.bound) bound-inverted
              ∙ bound-undone before.bound after.bound now.bound;
        };
    other = λ kind. applied.other (λ e. kind (sym stands.kind ∙ e));
  }

  -- an undone element is what the inverse of the part makes
  pub applied-undone : (now result : ElementValue) → IsElement now → IsElement result → IsUndone before after now result
      → IsApplied (inverse part) now result
  applied-undone now result isnow isresult is = record {
    changed = λ kind.
        let undoes = is.undone (sym stands.kind ∙ kind) in
        record {
          stamp = undoes.stamp;
          scalars = λ n. elim (cases_Bool (is_list n)) [
            | inl t ↦ list-scalar result n isresult t
                ∙ sym (list-stays n (scalar_of now n) t ∙ list-scalar now n isnow t)
            | inr f ↦ undoes.scalars n ∙ sym (scalar-inverted n (scalar_of now n) f)
          ];
          groups = undoes.groups ∙ sym (ap (λ o. groups_after o now.groups) groups-inverted
              ∙ groups-undone before.groups after.groups now.groups);
          bound = undoes.bound ∙ sym (ap (λ o. bound_after o now.bound) bound-inverted
              ∙ bound-undone before.bound after.bound now.bound);
        };
    other = λ kind. is.other (λ e. kind (stands.kind ∙ e));
  }

  pub applied-forward : (result : ElementValue) → IsElement result → before.id ≡ after.id → before.kind ≡ after.kind
      → IsApplied part before result → unstamped result ≡ unstamped after
  applied-forward result isresult id kind applied =
      let changed = applied.changed (stands.kind ∙ sym kind) in
      same-unstamped result after isresult is' (changed.stamp.kind ∙ kind)
      (λ n. elim (cases_Bool (is_list n)) [
        | inl t ↦ list-scalar result n isresult t ∙ sym (list-scalar after n is' t)
        | inr f ↦ changed.scalars n ∙ ap (λ o. scalar_after o (scalar_of before n)) (stands.scalars n f)
            ∙ scalar-forward n (scalar_of before n) (scalar_of after n)
      ])
      (changed.stamp.id ∙ id)
      (changed.groups ∙ ap (λ o. groups_after o before.groups) stands.groups
      ∙ groups-forward before.groups after.groups)
      (changed.bound ∙ ap (λ o. bound_after o before.bound) stands.bound ∙ bound-forward before.bound after.bound)

  pub applied-back : (result : ElementValue) → IsElement result → before.id ≡ after.id → before.kind ≡ after.kind
      → IsApplied (inverse part) after result → unstamped result ≡ unstamped before
  applied-back result isresult id kind applied =
      let undoes = (undone-from after result is' isresult applied).undone refl in
      same-unstamped result before isresult is (undoes.stamp.kind ∙ sym kind)
      (λ n. undoes.scalars n ∙ undone_scalar-now (scalar_of before n) (scalar_of after n))
      (undoes.stamp.id ∙ sym id)
      (undoes.groups ∙ undone_list-now bytes_eq bytes_eq-true bytes_eq-same before.groups after.groups)
      (undoes.bound ∙ undone_list-now same_listing_entry same_listing_entry-exact same_listing_entry-same
      before.bound
      after.bound)

-- a part makes one element of another one
module _ (part : Delta) (now a b : ElementValue) (is : IsElement a) (is' : IsElement b) (p : IsApplied part now a)
    (q : IsApplied part now b) where
  pub applied-once : part.kind ≡ now.kind → unstamped a ≡ unstamped b
  applied-once kind =
      let made = p.changed kind in
      let other = q.changed kind in
      same-unstamped a b is is' (made.stamp.kind ∙ sym other.stamp.kind) (λ n. made.scalars n
      ∙ sym (other.scalars n))
      (made.stamp.id ∙ sym other.stamp.id) (made.groups ∙ sym other.groups) (made.bound ∙ sym other.bound)

  -- whether the kinds are the same need not be known for this
  pub applied-apart : (unstamped a ≡ unstamped b → ⊥) → ⊥
  applied-apart differ =
      let kind : part.kind ≡ now.kind → ⊥ = λ same. differ (applied-once same) in
      differ (ap unstamped (p.other kind ∙ sym (q.other kind)))
