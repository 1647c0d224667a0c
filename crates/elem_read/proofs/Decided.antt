-- It is decided of what is found whether it has a form.
use Rattle.std.proofs.Common.{◌≡◌, ◌≢◌, ◌⊎◌, inl, inr, ℕ, zero, suc, ◌≤◌, ◌<◌, List, [], ◌∷◌, ◌++◌, Bool, true, false, map, Option, Some, None, bytes_eq, codes, decimal, refl, sym, ap, subst, ◌∙◌, arith, lit≤, IsUtf8}
use Rattle.std.specs.List.{AllByRecursion, list_any}
use Rattle.std.proofs.lemmas.Bool.{cases_Bool, cases_lt, or_parts, or_from, both_ways}
use Rattle.std.proofs.lemmas.Map.Entries.{lookup_tail}
use Rattle.std.proofs.lemmas.Option.{same_Some}
use Rattle.json_text.specs.Characters.{quote}
use Rattle.json_text.specs.Compact.{Member as Pair, array_text, object_text}
use Rattle.json_text.specs.Members.{pairs}
use Rattle.json_text.specs.Parts.{AreMembers, names_of}
use Rattle.json_text.specs.Tree.{null_word, true_word, false_word}
use Rattle.json_text.specs.Value.{IsCompact}
use Rattle.json_text.specs.declared.text.Member.{Member}
use Rattle.scene_json.specs.Named.{value_at, HaveRisingNames}
use Rattle.json_text.proofs.CallerLemmas.{bytes_eq-true, bytes_eq-same, Value-deeper, string-or-not, array-or-not, object-or-not}
use Rattle.scene_json.proofs.CallerLemmas.{tabled, quotes-compact}
use Rattle.frac_keys.specs.Keys.{is_key}
use Rattle.elem.specs.declared.kind.Kind.{Kind}
use Rattle.elem.specs.declared.kind.Kind.TheVariants.{Rectangle, Diamond, Ellipse, Arrow, Line, Freedraw, Text, Image, Frame, Magicframe, Iframe, Embeddable, Other}
use Rattle.elem.specs.declared.kind.Role.{Role}
use Rattle.elem.specs.declared.kind.Role.TheVariants as roles
use Rattle.elem.specs.declared.parts.BoundRef.{BoundRef}
use Rattle.elem.specs.Facts.{greatest_whole, IsKind}
use Rattle.elem.specs.Forms.{find_in, IsText, IsId, IsWholeNumber, IsTruth, IsNull, IsTextOrNull, IsKeyOrNull, AreTexts, IsObject, IsListingEntry, AreListingEntries, IsListing, AreOthers, IsBindingOrNull}
use Rattle.elem.specs.Said.{IsOwn}
use Rattle.elem.specs.Texts.{kind_name, role_name}
use Rattle.elem.proofs.CallerLemmas.{text-once, members-once, array-once}
use Rattle.elem_read.proofs.Keeping.{found-has}
use Rattle.elem_read.proofs.Others.{kept-others}
use Rattle.elem_read.proofs.Parts.{no-binding}

-- Something has the property, or nothing has.
abbrev pub Decided : {A : Type 0} → (A → Type 0) → Type 0
Decided P = ((x : _) × P x) ⊎ ((x : _) → P x → ⊥)

-- What is found is a compact text.
abbrev pub Fits : Option (List ℕ) → Type 0
Fits None = Unit {0}
Fits (Some value) = IsCompact 128 value

pub fits-from : (found : Option (List ℕ)) → ((value : List ℕ) → found ≡ Some value → IsCompact 128 value) → Fits found
fits-from None is = tt
fits-from (Some value) is = is value refl

pub fits-in : (limit : ℕ) (ms : List Pair) → limit ≤ 128 → AreMembers limit ms → (name : List ℕ)
    → Fits (value_at name ms)
fits-in limit ms small are name =
    fits-from (value_at name ms) (λ value e. Value-deeper small
    (found-has (λ _ v. IsCompact limit v) ms are.valued name value e))

-- ---- texts
pub text-or-not : (found : Option (List ℕ)) → Fits found → Decided (IsText found)
text-or-not None fits = inr (λ t is. let e = is.1 in cc)
text-or-not (Some v) fits = elim (string-or-not v fits) [
  | inl (t, u, e) ↦ inl (t, (u, ap Some e))
  | inr none ↦ inr (λ t is. none t (same_Some _ _ is.1))
]

pub id-or-not : (found : Option (List ℕ)) → Fits found → Decided (IsId found)
id-or-not found fits = by (text-or-not found fits)
  where
    by : Decided (IsText found) → Decided (IsId found)
    by (inl ([], is)) = inr (λ id h. h.1 (text-once found id [] h.0 is))
    by (inl (b ∷ bs, is)) = inl (b ∷ bs, (is, λ e. cc))
    by (inr none) = inr (λ id h. none id h.0)

pub null-or-not : (found : Option (List ℕ)) → IsNull found ⊎ (IsNull found → ⊥)
null-or-not None = inl (inl refl)
null-or-not (Some v) = elim (cases_Bool (bytes_eq v null_word)) [
  | inl e ↦ inl (inr (ap Some (bytes_eq-true v null_word e)))
  | inr e ↦ inr (λ null. by e null)
]
  where
    by : bytes_eq v null_word ≡ false → IsNull (Some v) → ⊥
    by e (inl none) = cc
    by e (inr null) =
        both_ways (bytes_eq v null_word) e (ap (λ x. bytes_eq x null_word) (same_Some _ _ null)
        ∙ bytes_eq-same null_word)

pub text_or_null-or-not : (found : Option (List ℕ)) → Fits found → Decided (IsTextOrNull found)
text_or_null-or-not found fits = by (text-or-not found fits) (null-or-not found)
  where
    neither : ((t : List ℕ) → IsText found t → ⊥) → (IsNull found → ⊥) → (o : Option (List ℕ)) → IsTextOrNull found o
        → ⊥
    neither none other None is = other is
    neither none other (Some t) is = none t is

    by : Decided (IsText found) → IsNull found ⊎ (IsNull found → ⊥) → Decided (IsTextOrNull found)
    by (inl (t, is)) null = inl (Some t, is)
    by (inr none) (inl null) = inl (None, null)
    by (inr none) (inr other) = inr (neither none other)

pub key_or_null-or-not : (found : Option (List ℕ)) → Fits found → Decided (IsKeyOrNull found)
key_or_null-or-not found fits = by (text-or-not found fits) (null-or-not found)
  where
    neither : ((t : List ℕ) → IsText found t → ⊥) → (IsNull found → ⊥) → (o : Option (List ℕ)) → IsKeyOrNull found o → ⊥
    neither none other None (inl null) = other null
    neither none other None (inr (t, is, free)) = none t is
    neither none other (Some t) is = none t is.0

    by : Decided (IsText found) → IsNull found ⊎ (IsNull found → ⊥) → Decided (IsKeyOrNull found)
    by (inl (t, is)) null = elim (cases_Bool (is_key t)) [
      | inl e ↦ inl (Some t, (is, e))
      | inr e ↦ inl (None, inr (t, is, e))
    ]
    by (inr none) (inl null) = inl (None, inl null)
    by (inr none) (inr other) = inr (neither none other)

quotes-or-not : (items : List (List ℕ)) → AllByRecursion (IsCompact 127) items
    → ((ts : List (List ℕ)) × AllByRecursion IsUtf8 ts × (items ≡ map quote ts))
    ⊎ ((ts : List (List ℕ)) → items ≡ map quote ts → ⊥)
quotes-or-not [] all = inl ([], tt, refl)
quotes-or-not (v ∷ vs) all = by (string-or-not v (Value-deeper (lit≤ tt) all.0)) (quotes-or-not vs all.1)
  where
    no-first : ((t : List ℕ) → v ≢ quote t) → (ts : List (List ℕ)) → (v ∷ vs) ≡ map quote ts → ⊥
    no-first none [] e = cc
    no-first none (t ∷ ts) e = none t (cc)

    no-more : ((ts : List (List ℕ)) → vs ≡ map quote ts → ⊥) → (ts : List (List ℕ)) → (v ∷ vs) ≡ map quote ts → ⊥
    no-more none [] e = cc
    no-more none (t ∷ ts) e = none ts (cc)

    by : ((t : List ℕ) × IsUtf8 t × (v ≡ quote t)) ⊎ ((t : List ℕ) → v ≢ quote t)
        → ((ts : List (List ℕ)) × AllByRecursion IsUtf8 ts × (vs ≡ map quote ts))
        ⊎ ((ts : List (List ℕ)) → vs ≡ map quote ts → ⊥)
        → ((ts : List (List ℕ)) × AllByRecursion IsUtf8 ts × ((v ∷ vs) ≡ map quote ts))
        ⊎ ((ts : List (List ℕ)) → (v ∷ vs) ≡ map quote ts → ⊥)
    by (inr none) others = inr (no-first none)
    by (inl first) (inr none) = inr (no-more none)
    by (inl (t, u, e)) (inl (ts, us, es)) = inl (t ∷ ts, (u, us), λ i. e i ∷ es i)

pub texts-or-not : (found : Option (List ℕ)) → Fits found → Decided (AreTexts found)
texts-or-not None fits = inr (λ ts is. let e = is.1 in cc)
texts-or-not (Some v) fits = by (array-or-not v fits)
  where
    by : ((items : List (List ℕ)) × AllByRecursion (IsCompact 127) items × (v ≡ array_text items))
        ⊎ ((items : List (List ℕ)) → v ≢ array_text items) → Decided (AreTexts (Some v))
    by (inr none) = inr (λ ts is. none (map quote ts) (same_Some _ _ is.1))
    by (inl (items, all, e)) = elim (quotes-or-not items all) [
      | inl (ts, us, es) ↦ inl (ts, (us, ap Some (e ∙ ap array_text es)))
      | inr none ↦ inr (λ ts is. none ts (array-once items (map quote ts) all (quotes-compact 127 ts is.0) (sym e
          ∙ same_Some _ _ is.1)))
    ]

-- ---- the kind of a name
seek : (kinds : List Kind) (more : List (List ℕ)) (name : List ℕ) → AllByRecursion IsKind kinds
    → list_any (bytes_eq name) more ≡ false
    → ((kind : Kind) × (kind_name kind ≡ name) × IsKind kind)
    ⊎ (list_any (bytes_eq name) (map kind_name kinds ++ more) ≡ false)
seek [] more name are none = inr none
seek (kind ∷ kinds) more name are none = elim (cases_Bool (bytes_eq name (kind_name kind))) [
  | inl e ↦ inl (kind, sym (bytes_eq-true name (kind_name kind) e), are.0)
  | inr e ↦ elim (seek kinds more name are.1 none) [
    | inl found ↦ inl found
    | inr others ↦ inr (or_from (bytes_eq name (kind_name kind))
        (list_any (bytes_eq name) (map kind_name kinds ++ more)) e others)
  ]
]

pub kind-of : (name : List ℕ) → name ≢ codes "selection" → (kind : Kind) × (kind_name kind ≡ name) × IsKind kind
kind-of name other =
    let apart : bytes_eq name (codes "selection") ≡ false = elim (cases_Bool (bytes_eq name (codes "selection"))) [
      | inl e ↦ absurd (other (bytes_eq-true name (codes "selection") e))
      | inr e ↦ e
    ] in
    elim (seek (Rectangle ∷ Diamond ∷ Ellipse ∷ Arrow ∷ Line ∷ Freedraw ∷ Text ∷ Image ∷ Frame ∷ Magicframe ∷ Iframe
    ∷ Embeddable ∷ []) (codes "selection" ∷ []) name
    (tt, (tt, (tt, (tt, (tt, (tt, (tt, (tt, (tt, (tt, (tt, (tt, tt))))))))))))
    (or_from (bytes_eq name (codes "selection")) false apart refl)) [
      | inl found ↦ found
      | inr none ↦ (Other name, refl, none)
    ]

-- ---- numbers and truths
number-below : (v : List ℕ) (k : ℕ) → ((n : ℕ) × (n < k) × (v ≡ decimal n)) ⊎ ((n : ℕ) → n < k → v ≢ decimal n)
number-below v zero = inr (λ n below. absurd (omega arith))
number-below v (suc k) = by (number-below v k) (cases_Bool (bytes_eq v (decimal k)))
  where
    last : ((n : ℕ) → n < k → v ≢ decimal n) → bytes_eq v (decimal k) ≡ false → (n : ℕ) → n < suc k → v ≢ decimal n
    last none differ n below e = elim (cases_lt n k) [
      | inl less ↦ none n less e
      | inr above ↦
          let same : n ≡ k = omega arith in
          both_ways (bytes_eq v (decimal k)) differ (ap (λ x. bytes_eq x (decimal k)) (e ∙ ap decimal same)
          ∙ bytes_eq-same (decimal k))
    ]

    by : ((n : ℕ) × (n < k) × (v ≡ decimal n)) ⊎ ((n : ℕ) → n < k → v ≢ decimal n) → (bytes_eq v (decimal k) ≡ true)
        ⊎ (bytes_eq v (decimal k) ≡ false)
        → ((n : ℕ) × (n < suc k) × (v ≡ decimal n)) ⊎ ((n : ℕ) → n < suc k → v ≢ decimal n)
    by (inl (n, below, e)) test = inl (n, omega arith, e)
    by (inr none) (inl e) = inl (k, omega arith, bytes_eq-true v (decimal k) e)
    by (inr none) (inr e) = inr (last none e)

number-within : (limit : ℕ) (found : Option (List ℕ)) → ((n : ℕ) × (n ≤ limit) × (found ≡ Some (decimal n)))
    ⊎ ((n : ℕ) → n ≤ limit → found ≢ Some (decimal n))
number-within limit None = inr (λ n within e. cc)
number-within limit (Some v) = elim (number-below v (suc limit)) [
  | inl (n, below, e) ↦ inl (n, omega arith, ap Some e)
  | inr none ↦ inr (λ n within e. none n (omega arith) (same_Some _ _ e))
]

pub whole-or-not : (found : Option (List ℕ)) → Decided (IsWholeNumber found)
whole-or-not found = elim (number-within greatest_whole found) [
  | inl (n, within, e) ↦ inl (n, (within, e))
  | inr none ↦ inr (λ n is. none n is.0 is.1)
]

pub truth-or-not : (found : Option (List ℕ)) → Decided (IsTruth found)
truth-or-not None = inr (λ t is. cc)
truth-or-not (Some v) = by (cases_Bool (bytes_eq v true_word)) (cases_Bool (bytes_eq v false_word))
  where
    neither : bytes_eq v true_word ≡ false → bytes_eq v false_word ≡ false → (t : Bool) → IsTruth (Some v) t → ⊥
    neither a b true is =
        both_ways (bytes_eq v true_word) a (ap (λ x. bytes_eq x true_word) (same_Some _ _ is) ∙ bytes_eq-same true_word)
    neither a b false is =
        both_ways (bytes_eq v false_word) b (ap (λ x. bytes_eq x false_word) (same_Some _ _ is)
        ∙ bytes_eq-same false_word)

    by : (bytes_eq v true_word ≡ true) ⊎ (bytes_eq v true_word ≡ false) → (bytes_eq v false_word ≡ true)
        ⊎ (bytes_eq v false_word ≡ false) → Decided (IsTruth (Some v))
    by (inl a) b = inl (true, ap Some (bytes_eq-true v true_word a))
    by (inr a) (inl b) = inl (false, ap Some (bytes_eq-true v false_word b))
    by (inr a) (inr b) = inr (neither a b)

-- ---- listings
role-or-not : (found : Option (List ℕ)) → Fits found → ((role : Role) × IsText found (role_name role))
    ⊎ ((role : Role) → IsText found (role_name role) → ⊥)
role-or-not found fits = by (text-or-not found fits)
  where
    by_name : (t : List ℕ) → IsText found t → (bytes_eq t (codes "arrow") ≡ true) ⊎ (bytes_eq t (codes "arrow") ≡ false)
        → (bytes_eq t (codes "text") ≡ true) ⊎ (bytes_eq t (codes "text") ≡ false)
        → ((role : Role) × IsText found (role_name role)) ⊎ ((role : Role) → IsText found (role_name role) → ⊥)
    by_name t is (inl a) b = inl (roles.Arrow, subst (IsText found) (bytes_eq-true t (codes "arrow") a) is)
    by_name t is (inr a) (inl b) = inl (roles.Text, subst (IsText found) (bytes_eq-true t (codes "text") b) is)
    by_name t is (inr a) (inr b) = inr (other t is a b)
      where
        other : (t : List ℕ) → IsText found t → bytes_eq t (codes "arrow") ≡ false → bytes_eq t (codes "text") ≡ false
            → (role : Role) → IsText found (role_name role) → ⊥
        other t is a b roles.Arrow one = both_ways (bytes_eq t (codes "arrow")) a
            (ap (λ x. bytes_eq x (codes "arrow")) (text-once found t (codes "arrow") is one))
        other t is a b roles.Text one = both_ways (bytes_eq t (codes "text")) b
            (ap (λ x. bytes_eq x (codes "text")) (text-once found t (codes "text") is one))

    by : Decided (IsText found) → ((role : Role) × IsText found (role_name role))
        ⊎ ((role : Role) → IsText found (role_name role) → ⊥)
    by (inl (t, is)) = by_name t is (cases_Bool (bytes_eq t (codes "arrow"))) (cases_Bool (bytes_eq t (codes "text")))
    by (inr none) = inr (λ role is. none (role_name role) is)

entry-or-not : (item : List ℕ) → IsCompact 127 item → Decided (IsListingEntry item)
entry-or-not item is = by (object-or-not item (Value-deeper (lit≤ tt) is))
  where
    by : ((ms : List Pair) × AreMembers 127 ms × (item ≡ object_text ms)) ⊎ ((ms : List Pair) → item ≢ object_text ms)
        → Decided (IsListingEntry item)
    by (inr none) = inr (λ entry one. none one.members one.object.spelled)
    by (inl (ms, are, e)) =
        let object : IsObject item ms = record { are_members = are; spelled = e } in
        elim (text-or-not (value_at (codes "id") ms) (fits-in 127 ms (lit≤ tt) are (codes "id"))) [
          | inr none ↦ inr (λ entry one. none entry.id (subst (λ os. IsText (value_at (codes "id") os) entry.id)
              (members-once item one.members ms one.object object) one.id))
          | inl (id, named) ↦ elim (role-or-not (value_at (codes "type") ms)
              (fits-in 127 ms (lit≤ tt) are (codes "type"))) [
                | inr none ↦ inr (λ entry one. none entry.role
                    (subst (λ os. IsText (value_at (codes "type") os) (role_name entry.role))
                    (members-once item one.members ms one.object object) one.role))
                | inl (role, typed) ↦ inl (
                  record { id = id; role = role },
                  record { members = ms; object = object; id = named; role = typed },
                )
              ]
        ]

entries : (items : List (List ℕ)) → AllByRecursion (IsCompact 127) items → (es : List BoundRef)
    × AreListingEntries items es
entries [] all = ([], refl)
entries (item ∷ items) all =
    let others = entries items all.1 in
    elim (entry-or-not item all.0) [
      | inl (entry, is) ↦ (entry ∷ others.0, inl (entry, others.0, refl, is, others.1))
      | inr none ↦ (others.0, inr (none, others.1))
    ]

pub listing-or-not : (found : Option (List ℕ)) → Fits found → Decided (IsListing found)
listing-or-not None fits = inr (λ es is. let e = is.2 in cc)
listing-or-not (Some v) fits = elim (array-or-not v fits) [
  | inl (items, all, e) ↦ let es = entries items all in inl (es.0, (items, all, ap Some e, es.1))
  | inr none ↦ inr (λ es is. none is.0 (same_Some _ _ is.2))
]

-- ---- further members
pub unpaired : List Pair → List Member
unpaired [] = []
unpaired (m ∷ ms) = record { name = m.0; value = m.1 } ∷ unpaired ms

pub pairs-unpaired : (ms : List Pair) → pairs (unpaired ms) ≡ ms
unfolding unpaired
pairs-unpaired [] = refl
pairs-unpaired (m ∷ ms) = ap (λ rest. m ∷ rest) (pairs-unpaired ms)

pub not-named : (name : List ℕ) (ms : List Pair) → list_any (bytes_eq name) (names_of ms) ≡ false
    → value_at name ms ≡ None
not-named name [] none = refl
not-named name (m ∷ ms) none =
    let parts = or_parts (bytes_eq name m.0) (list_any (bytes_eq name) (names_of ms)) none in
    lookup_tail (bytes_eq name) m ms parts.0 ∙ not-named name ms parts.1

pub others-exist : (test : List ℕ → Bool) (ms : List Pair) → (others : List Member) × AreOthers test (find_in ms) others
others-exist test ms =
    let t = tabled (names_of ms) (find_in ms) (λ name none. not-named name ms none) in
    let back = pairs-unpaired t.0 in
    let kept = kept-others test (unpaired t.0) (subst HaveRisingNames (sym back) t.1) in (
      _,
      record {
        rise = kept.rise;
        free = kept.free;
        same = λ name other. kept.same name other
            ∙ (ap (value_at name) back ∙ t.2 name);
      },
    )

-- ---- bindings
pub binding-or-not : (found : Option (List ℕ)) → Fits found → Decided (IsBindingOrNull found)
binding-or-not None fits = inl (None, inl (inl refl))
binding-or-not (Some v) fits = by (cases_Bool (bytes_eq v null_word)) (object-or-not v fits)
  where
    by : (bytes_eq v null_word ≡ true) ⊎ (bytes_eq v null_word ≡ false)
        → ((ms : List Pair) × AreMembers 127 ms × (v ≡ object_text ms)) ⊎ ((ms : List Pair) → v ≢ object_text ms)
        → Decided (IsBindingOrNull (Some v))
    by (inl null) object = inl (None, inl (inr (ap Some (bytes_eq-true v null_word null))))
    by (inr other) (inr none) =
        inr (no-binding (Some v) v refl (λ e. both_ways (bytes_eq v null_word) other (ap (λ x. bytes_eq x null_word) e
        ∙ bytes_eq-same null_word)) none)
    by (inr other) (inl (ms, are, e)) =
        let object : IsObject v ms = record { are_members = are; spelled = e } in
        elim (text-or-not (value_at (codes "elementId") ms) (fits-in 127 ms (lit≤ tt) are (codes "elementId"))) [
          | inl (target, is) ↦
              let rest = others-exist (bytes_eq (codes "elementId")) ms in
              inl (
                Some (record { target = target; rest = rest.0 }),
                record { value = v; members = ms; found_is = refl; object = object; target = is; rest = rest.1 },
              )
          | inr none ↦ inl (
            None,
            inr (record {
              value = v;
              members = ms;
              found_is = refl;
              object = object;
              free =
                  none;
            }),
          )
        ]

-- ---- parts of one kind alone
pub own-or-not : {A : Type 0} (own : Bool) (IsForm : Option (List ℕ) → Option A → Type 0) (found : Option (List ℕ))
    → Decided (IsForm found) → Decided (IsOwn own IsForm found)
own-or-not true IsForm found is = is
own-or-not false IsForm found is = inl (None, refl)
