-- A value stands for one thing alone.
use Rattle.std.proofs.Common.{◌≡◌, ◌≢◌, ◌<◌, ◌^◌, ℕ, List, [], ◌∷◌, ◌++◌, map, refl, sym, ap, ap₂, ◌∙◌, subst, arith, inl, inr, true, false, Bool, Option, Some, None, codes, decimal, bytes_eq, drop}
use Rattle.std.specs.List.{AllByRecursion, list_any}
use Rattle.std.proofs.lemmas.Bool.{or_parts, both_ways}
use Rattle.std.proofs.lemmas.Map.Entries.{lookup_tail}
use Rattle.std.specs.Prelude.{if◌then◌else◌}
use Rattle.std.specs.Cmp.Lexicographic.{slice_cmp}
use Rattle.std.specs.Ordering.{is_lt, nat_cmp}
use Rattle.std.specs.declared.cmp.Ordering.TheVariants.{Less}
use Rattle.json_text.specs.Characters.{quote}
use Rattle.json_text.specs.Tree.{null_word, true_word, false_word}
use Rattle.json_text.specs.Compact.{Member as Pair, array_text}
use Rattle.json_text.specs.Members.{pairs}
use Rattle.json_text.specs.declared.text.Member.{Member}
use Rattle.scene_json.specs.Named.{value_at, HaveRisingNames}
use Rattle.json_text.proofs.CallerLemmas.{bytes_eq-apart, StartsWith, quote-starts, object-starts, heads-differ}
use Rattle.scene_json.proofs.CallerLemmas.{value_of_decimal, IsBelow, rising_from, rising_none, rising_same, names-pairs, quote-once, quotes-compact, quotes-once, rising_parts}
use Rattle.frac_keys.specs.Keys.{is_key, bytes_less}
use Rattle.frac_keys.specs.Rising.{are_rising}
use Rattle.elem.specs.declared.kind.Kind.{Kind}
use Rattle.elem.specs.declared.kind.Kind.TheVariants.{Rectangle, Diamond, Ellipse, Arrow, Line, Freedraw, Text, Image, Frame, Magicframe, Iframe, Embeddable, Other}
use Rattle.elem.specs.declared.kind.Role.{Role}
use Rattle.elem.specs.declared.kind.Role.TheVariants as roles
use Rattle.elem.specs.declared.parts.BoundRef.{BoundRef}
use Rattle.elem.specs.declared.parts.Binding.{Binding}
use Rattle.elem.specs.Facts.{IsKind, names}
use Rattle.elem.specs.Forms.{Find, IsText, IsKindName, IsWholeNumber, IsTruth, IsNull, IsTextOrNull, IsKeyOrNull, AreTexts, IsObject, IsListingEntry, AreListingEntries, IsListing, AreOthers, IsBindingObject, IsBindingOrNull}
use Rattle.elem.specs.Texts.{kind_name, role_name}
use Rattle.elem.proofs.Once.{array-once, object-once}
use Rattle.elem.proofs.Sorting.{IsRising, IsRising-from}

-- ---- texts, numbers, truths
pub text-once : (found : Option (List ℕ)) (a b : List ℕ) → IsText found a → IsText found b → a ≡ b
text-once found a b one two =
    let same : quote a ≡ quote b = let e = one.1 in let f = two.1 in cc in quote-once a b one.0 two.0 same

pub whole-once : (found : Option (List ℕ)) (a b : ℕ) → IsWholeNumber found a → IsWholeNumber found b → a ≡ b
whole-once found a b one two =
    let e = one.1 in
    let f = two.1 in
    let same : decimal a ≡ decimal b = cc in
    let first : a < 2 ^ 64 = omega (arith, one.0) in
    let second : b < 2 ^ 64 = omega (arith, two.0) in
    sym (value_of_decimal (decimal a) a first refl) ∙ value_of_decimal (decimal a) b second same

pub truth-once : (found : Option (List ℕ)) (a b : Bool) → IsTruth found a → IsTruth found b → a ≡ b
truth-once found true true one two = refl
truth-once found false false one two = refl
truth-once found true false one two =
    let same : true_word ≡ false_word = cc in absurd (heads-differ 116 102 _ _ refl same)
truth-once found false true one two =
    let same : true_word ≡ false_word = cc in absurd (heads-differ 116 102 _ _ refl same)

-- ---- null
null-apart : (found : Option (List ℕ)) (value : List ℕ) (first : ℕ) → IsNull found → found ≡ Some value
    → StartsWith first value → first ≢ 110 → ⊥
null-apart found value first (inl none) is starts other = cc
null-apart found value first (inr null) is starts other =
    let same : null_word ≡ first ∷ starts.0 = let e = starts.1 in cc in
    other (cc)

pub null-no-text : (found : Option (List ℕ)) (text : List ℕ) → IsNull found → IsText found text → ⊥
null-no-text found text null is = null-apart found (quote text) 34 null is.1 (quote-starts text) (λ e. omega arith)

pub null-no-object : (found : Option (List ℕ)) (value : List ℕ) (members : List Pair) → IsNull found
    → found ≡ Some value → IsObject value members → ⊥
null-no-object found value members null is object =
    let starts = object-starts members in
    null-apart found value 123 null is (starts.0, object.spelled ∙ starts.1) (λ e. omega arith)

pub text_or_null-once : (found : Option (List ℕ)) (a b : Option (List ℕ)) → IsTextOrNull found a → IsTextOrNull found b
    → a ≡ b
text_or_null-once found None None one two = refl
text_or_null-once found None (Some b) one two = absurd (null-no-text found b one two)
text_or_null-once found (Some a) None one two = absurd (null-no-text found a two one)
text_or_null-once found (Some a) (Some b) one two = ap Some (text-once found a b one two)

no_key : (found : Option (List ℕ)) (b : List ℕ) → IsKeyOrNull found None → IsKeyOrNull found (Some b) → ⊥
no_key found b (inl null) two = null-no-text found b null two.0
no_key found b (inr (text, is, other)) two =
    both_ways _ other (ap is_key (text-once found text b is two.0) ∙ two.1)

pub key_or_null-once : (found : Option (List ℕ)) (a b : Option (List ℕ)) → IsKeyOrNull found a → IsKeyOrNull found b
    → a ≡ b
key_or_null-once found None None one two = refl
key_or_null-once found None (Some b) one two = absurd (no_key found b one two)
key_or_null-once found (Some a) None one two = absurd (no_key found a two one)
key_or_null-once found (Some a) (Some b) one two = ap Some (text-once found a b one.0 two.0)

pub texts-once : (found : Option (List ℕ)) (xs ys : List (List ℕ)) → AreTexts found xs → AreTexts found ys → xs ≡ ys
texts-once found xs ys one two =
    let e = one.1 in
    let f = two.1 in
    let same : array_text (map quote xs) ≡ array_text (map quote ys) = cc in
    quotes-once xs ys one.0 two.0 (array-once (map quote xs) (map quote ys) (quotes-compact 127 xs one.0)
    (quotes-compact 127 ys two.0) same)

-- ---- kinds and roles
-- the kind of a name: the first of these that has it, or another one
abbrev kind_among : List Kind → List ℕ → Kind
kind_among [] name = Other name
kind_among (kind ∷ kinds) name = if bytes_eq name (kind_name kind) then kind else kind_among kinds name

abbrev known_kinds : List Kind
known_kinds =
    Rectangle ∷ Diamond ∷ Ellipse ∷ Arrow ∷ Line ∷ Freedraw ∷ Text ∷ Image ∷ Frame ∷ Magicframe ∷ Iframe ∷ Embeddable
    ∷ []

other_among : (kinds : List Kind) (more : List (List ℕ)) (name : List ℕ)
    → list_any (bytes_eq name) (map kind_name kinds ++ more) ≡ false → kind_among kinds name ≡ Other name
other_among [] more name h = refl
other_among (kind ∷ kinds) more name h =
    let parts = or_parts (bytes_eq name (kind_name kind)) (list_any (bytes_eq name) (map kind_name kinds ++ more)) h in
    ap (λ (b : Bool). if b then kind else kind_among kinds name) parts.0 ∙ other_among kinds more name parts.1

kind_back : (kind : Kind) → IsKind kind → kind_among known_kinds (kind_name kind) ≡ kind
kind_back Rectangle is = refl
kind_back Diamond is = refl
kind_back Ellipse is = refl
kind_back Arrow is = refl
kind_back Line is = refl
kind_back Freedraw is = refl
kind_back Text is = refl
kind_back Image is = refl
kind_back Frame is = refl
kind_back Magicframe is = refl
kind_back Iframe is = refl
kind_back Embeddable is = refl
kind_back (Other name) is = other_among known_kinds (codes "selection" ∷ []) name is

pub kind_of_name-once : (a b : Kind) → IsKind a → IsKind b → kind_name a ≡ kind_name b → a ≡ b
kind_of_name-once a b one two e = sym (kind_back a one) ∙ ap (kind_among known_kinds) e ∙ kind_back b two

pub kind-once : (found : Option (List ℕ)) (a b : Kind) → IsKindName found a → IsKindName found b → a ≡ b
kind-once found a b one two = kind_of_name-once a b one.1 two.1 (text-once found _ _ one.0 two.0)

role_of_name-once : (a b : Role) → role_name a ≡ role_name b → a ≡ b
role_of_name-once roles.Arrow roles.Arrow e = refl
role_of_name-once roles.Text roles.Text e = refl
role_of_name-once roles.Arrow roles.Text e = absurd (heads-differ 97 116 _ _ refl e)
role_of_name-once roles.Text roles.Arrow e = absurd (heads-differ 116 97 _ _ refl e)

-- ---- listings
pub members-once : (value : List ℕ) (ms ns : List Pair) → IsObject value ms → IsObject value ns → ms ≡ ns
members-once value ms ns one two = object-once ms ns one.are_members two.are_members (sym one.spelled ∙ two.spelled)

entry-once : (item : List ℕ) (a b : BoundRef) → IsListingEntry item a → IsListingEntry item b → a ≡ b
entry-once item a b one two =
    let same = members-once item one.members two.members one.object two.object in
    let id : IsText (value_at (codes "id") one.members) b.id =
    subst (λ ms. IsText (value_at (codes "id") ms) b.id) (sym same) two.id in
    let role : IsText (value_at (codes "type") one.members) (role_name b.role) =
    subst (λ ms. IsText (value_at (codes "type") ms) (role_name b.role)) (sym same) two.role in
    let ids = text-once _ a.id b.id one.id id in
    let roles = role_of_name-once a.role b.role (text-once _ _ _ one.role role) in
    λ i. record { id = ids i; role = roles i }

entries-once : (items : List (List ℕ)) (xs ys : List BoundRef) → AreListingEntries items xs → AreListingEntries items ys
    → xs ≡ ys
entries-once [] xs ys one two = one ∙ sym two
entries-once (item ∷ items) xs ys (inl (x, more, is, entry, others)) (inl (y, rest, are, other, next)) =
    is ∙ (ap₂ (λ z zs. z ∷ zs) (entry-once item x y entry other) (entries-once items more rest others next) ∙ sym are)
entries-once (item ∷ items) xs ys (inl (x, more, is, entry, others)) (inr (none, next)) = absurd (none x entry)
entries-once (item ∷ items) xs ys (inr (none, others)) (inl (y, rest, are, other, next)) = absurd (none y other)
entries-once (item ∷ items) xs ys (inr (none, others)) (inr (same, next)) = entries-once items xs ys others next

pub listing-once : (found : Option (List ℕ)) (xs ys : List BoundRef) → IsListing found xs → IsListing found ys → xs ≡ ys
listing-once found xs ys (vs, first, is, entries) (ws, second, are, others) =
    let text : array_text vs ≡ array_text ws = cc in
    let same = array-once vs ws first second text in
    entries-once vs xs ys entries (subst (λ items. AreListingEntries items ys) (sym same) others)

-- ---- further members
pub rising-names : (ms : List Pair) → IsRising ms → HaveRisingNames ms
rising-names [] rise = rising_none
rising-names (m ∷ ms) rise = rising_from m ms (below m ms rise.0) (rising-names ms rise.1)
  where
    below : (m : Pair) (ms : List Pair) → AllByRecursion (λ (n : Pair). bytes_less m.0 n.0 ≡ true) ms → IsBelow m.0 ms
    below m [] h = tt
    below m (n ∷ ns) h = let less : slice_cmp nat_cmp m.0 n.0 ≡ Less = grind (arith, h.0) in (less, below m ns h.1)

-- and what rises so is so listed
pub names-rising : (ms : List Pair) → HaveRisingNames ms → IsRising ms
names-rising [] rise = tt
names-rising (m ∷ ms) rise =
    let parts = rising_parts m ms rise in (above m.0 ms parts.0, names-rising ms parts.1)
  where
    above : (name : List ℕ) (ms : List Pair) → IsBelow name ms
        → AllByRecursion (λ (n : Pair). bytes_less name n.0 ≡ true) ms
    above name [] h = tt
    above name (n ∷ ns) h = (ap is_lt h.0, above name ns h.1)

pub names-rise : (others : List Member) → are_rising (names others) ≡ true → HaveRisingNames (pairs others)
names-rise others rise =
    rising-names (pairs others) (IsRising-from (pairs others) (ap are_rising (names-pairs others) ∙ rise))

-- a name that none of the members has, since the test tells it from theirs
pub value_at-free : (test : List ℕ → Bool) (name : List ℕ) (others : List Member) → list_any test (names others) ≡ false
    → test name ≡ true → value_at name (pairs others) ≡ None
value_at-free test name [] free passes = refl
value_at-free test name (m ∷ ms) free passes =
    let parts = or_parts (test m.name) (list_any test (names ms)) free in
    let apart : bytes_eq name m.name ≡ false =
    bytes_eq-apart name m.name (λ e. both_ways (test m.name) parts.0 (ap test (sym e) ∙ passes)) in
    lookup_tail (bytes_eq name) (m.name, m.value) (pairs ms) apart ∙ value_at-free test name ms parts.1 passes

pub pairs-once : (xs ys : List Member) → pairs xs ≡ pairs ys → xs ≡ ys
pairs-once [] [] e = refl
pairs-once [] (y ∷ ys) e = cc
pairs-once (x ∷ xs) [] e = cc
pairs-once (x ∷ xs) (y ∷ ys) e =
    let first : (x.name, x.value) ≡ (y.name, y.value) = ap (λ ps. head_or ps (x.name, x.value)) e in
    ap₂ (λ z zs. z ∷ zs) (λ i. record { name = (first i).0; value = (first i).1 }) (pairs-once xs ys (ap (drop 1) e))
  where
    head_or : List Pair → Pair → Pair
    head_or [] p = p
    head_or (q ∷ qs) p = q

pub others-once : (test : List ℕ → Bool) (find : Find) (xs ys : List Member) → AreOthers test find xs
    → AreOthers test find ys → xs ≡ ys
others-once test find xs ys one two =
    pairs-once xs ys (rising_same (pairs xs) (pairs ys) (names-rise xs one.rise) (names-rise ys two.rise)
    (λ name. at name (test name) refl))
  where
    at : (name : List ℕ) (b : Bool) → test name ≡ b → value_at name (pairs xs) ≡ value_at name (pairs ys)
    at name true h = value_at-free test name xs one.free h ∙ sym (value_at-free test name ys two.free h)
    at name false h = one.same name h ∙ sym (two.same name h)

-- ---- bindings
bound-once : (found : Option (List ℕ)) (a b : Binding) → IsBindingObject found a → IsBindingObject found b → a ≡ b
bound-once found a b one two =
    let e = one.found_is in
    let f = two.found_is in
    let value : one.value ≡ two.value = cc in
    let same = members-once one.value one.members two.members one.object
    (subst (λ v. IsObject v two.members) (sym value) two.object) in
    let target : IsText (value_at (codes "elementId") one.members) b.target =
    subst (λ ms. IsText (value_at (codes "elementId") ms) b.target) (sym same) two.target in
    let rest : AreOthers (bytes_eq (codes "elementId")) (λ name. value_at name one.members) b.rest =
    subst (λ (ms : List Pair). AreOthers (bytes_eq (codes "elementId")) (λ name. value_at name ms) b.rest)
    (sym same) two.rest in
    let targets = text-once _ a.target b.target one.target target in
    let rests =
    others-once (bytes_eq (codes "elementId")) (λ name. value_at name one.members) a.rest b.rest one.rest rest in
    λ i. record { target = targets i; rest = rests i }

bound-apart : (found : Option (List ℕ)) (b : Binding) → IsBindingOrNull found None → IsBindingObject found b → ⊥
bound-apart found b (inl null) two = null-no-object found two.value two.members null two.found_is two.object
bound-apart found b (inr one) two =
    let e = one.found_is in
    let f = two.found_is in
    let value : two.value ≡ one.value = cc in
    let same = members-once one.value two.members one.members (subst (λ v. IsObject v two.members) value two.object)
    one.object in
    one.free b.target (subst (λ ms. IsText (value_at (codes "elementId") ms) b.target) same two.target)

pub binding-once : (found : Option (List ℕ)) (a b : Option Binding) → IsBindingOrNull found a → IsBindingOrNull found b
    → a ≡ b
binding-once found None None one two = refl
binding-once found None (Some b) one two = absurd (bound-apart found b one two)
binding-once found (Some a) None one two = absurd (bound-apart found a two one)
binding-once found (Some a) (Some b) one two = ap Some (bound-once found a b one two)
