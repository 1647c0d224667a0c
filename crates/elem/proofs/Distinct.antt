-- The names of an element's members are distinct.
use Rattle.std.proofs.Common.{◌≡◌, ℕ, true, false, List, [], ◌∷◌, ◌++◌, bytes_eq, codes, refl, sym, ap, ◌∙◌, subst, Bool}
use Rattle.std.specs.Cmp.Lexicographic.{nat_list_eq_equiv}
use Rattle.std.specs.List.{IsDistinct, AllByRecursion, list_any}
use Rattle.std.proofs.lemmas.Bool.{or_parts, or_from}
use Rattle.std.proofs.lemmas.List.{map-append}
use Rattle.std.proofs.lemmas.List.Folds.{list_any-append}
use Rattle.std.proofs.lemmas.Map.Made.{IsDistinct-from_count}
use Rattle.json_text.specs.Compact.{Member as Pair}
use Rattle.json_text.specs.Members.{pairs}
use Rattle.json_text.specs.declared.text.Member.{Member}
use Rattle.json_text.proofs.CallerLemmas.{name_of, names_of, none_passes}
use Rattle.scene_json.proofs.CallerLemmas.{names-pairs}
use Rattle.frac_keys.specs.Keys.{bytes_less}
use Rattle.frac_keys.specs.Rising.{are_rising}
use Rattle.frac_keys.proofs.CallerLemmas.{bytes_eq-less}
use Rattle.elem.specs.declared.kind.Kind.{Kind}
use Rattle.elem.specs.declared.kind.Kind.TheVariants.{Rectangle, Diamond, Ellipse, Arrow, Line, Freedraw, Text, Image, Frame, Magicframe, Iframe, Embeddable, Other}
use Rattle.elem.specs.declared.parts.Binding.{Binding}
use Rattle.elem.specs.ElementValue.{ElementValue}
use Rattle.elem.specs.Facts.{IsElement, IsBinding, header_names, own_names, is_header, names}
use Rattle.elem.specs.Texts.{header_members, own_members}
use Rattle.elem.proofs.Sorting.{IsRising, IsRising-from}

-- ---- lists of names

apart_from_rising : (name : List ℕ) (ms : List Pair) → AllByRecursion (λ (m : Pair). bytes_less name m.0 ≡ true) ms
    → AllByRecursion (λ y. bytes_eq name y ≡ false) (names_of ms)
apart_from_rising name [] h = tt
apart_from_rising name (m ∷ ms) h = (bytes_eq-less name m.0 h.0, apart_from_rising name ms h.1)

pub IsDistinct-rising : (ms : List Pair) → IsRising ms → IsDistinct bytes_eq (names_of ms)
unfolding IsDistinct
IsDistinct-rising [] rise = tt
IsDistinct-rising (m ∷ ms) rise = (apart_from_rising m.0 ms rise.0, IsDistinct-rising ms rise.1)

-- rising names are distinct
IsDistinct-names : (members : List Member) → are_rising (names members) ≡ true → IsDistinct bytes_eq (names members)
IsDistinct-names members rise =
    subst (IsDistinct bytes_eq) (names-pairs members)
    (IsDistinct-rising (pairs members) (IsRising-from (pairs members) (ap are_rising (names-pairs members) ∙ rise)))

pub AllByRecursion-append : {X : Type 0} (P : X → Type 0) (xs ys : List X) → AllByRecursion P xs → AllByRecursion P ys
    → AllByRecursion P (xs ++ ys)
AllByRecursion-append P [] ys left right = right
AllByRecursion-append P (x ∷ xs) ys left right = (left.0, AllByRecursion-append P xs ys left.1 right)

first_apart : (x : List ℕ) (xs ys : List (List ℕ)) → AllByRecursion (λ y. list_any (bytes_eq y) (x ∷ xs) ≡ false) ys
    → AllByRecursion (λ y. bytes_eq x y ≡ false) ys
first_apart x xs [] h = tt
first_apart x xs (y ∷ ys) h = (nat_list_eq_equiv.symm x y ∙ (or_parts _ _ h.0).0, first_apart x xs ys h.1)

others_apart : (x : List ℕ) (xs ys : List (List ℕ)) → AllByRecursion (λ y. list_any (bytes_eq y) (x ∷ xs) ≡ false) ys
    → AllByRecursion (λ y. list_any (bytes_eq y) xs ≡ false) ys
others_apart x xs [] h = tt
others_apart x xs (y ∷ ys) h = ((or_parts _ _ h.0).1, others_apart x xs ys h.1)

-- distinct names, and others that are none of them
IsDistinct-append : (xs ys : List (List ℕ)) → IsDistinct bytes_eq xs → IsDistinct bytes_eq ys
    → AllByRecursion (λ y. list_any (bytes_eq y) xs ≡ false) ys → IsDistinct bytes_eq (xs ++ ys)
unfolding IsDistinct
IsDistinct-append [] ys left right apart = right
IsDistinct-append (x ∷ xs) ys left right apart = (
  AllByRecursion-append _ xs ys left.0 (first_apart x xs ys apart),
  IsDistinct-append xs ys left.1 right (others_apart x xs ys apart),
)

-- ---- members whose names pass no test
pub list_any-each : (test : List ℕ → Bool) (ms : List Member) → AllByRecursion (λ (m : Member). test m.name ≡ false) ms
    → list_any test (names ms) ≡ false
list_any-each test [] h = refl
list_any-each test (m ∷ ms) h = or_from (test m.name) (list_any test (names ms)) h.0 (list_any-each test ms h.1)

pub each-list_any : (test : List ℕ → Bool) (ms : List Member) → list_any test (names ms) ≡ false
    → AllByRecursion (λ (m : Member). test m.name ≡ false) ms
each-list_any test [] h = tt
each-list_any test (m ∷ ms) h =
    let parts = or_parts (test m.name) (list_any test (names ms)) h in (parts.0, each-list_any test ms parts.1)

-- ---- the header names of a kind
pub IsDistinct-header : (kind : Kind) → IsDistinct bytes_eq (header_names ++ own_names kind)
IsDistinct-header Rectangle = IsDistinct-from_count nat_list_eq_equiv _ refl
IsDistinct-header Diamond = IsDistinct-from_count nat_list_eq_equiv _ refl
IsDistinct-header Ellipse = IsDistinct-from_count nat_list_eq_equiv _ refl
IsDistinct-header Arrow = IsDistinct-from_count nat_list_eq_equiv _ refl
IsDistinct-header Line = IsDistinct-from_count nat_list_eq_equiv _ refl
IsDistinct-header Freedraw = IsDistinct-from_count nat_list_eq_equiv _ refl
IsDistinct-header Text = IsDistinct-from_count nat_list_eq_equiv _ refl
IsDistinct-header Image = IsDistinct-from_count nat_list_eq_equiv _ refl
IsDistinct-header Frame = IsDistinct-from_count nat_list_eq_equiv _ refl
IsDistinct-header Magicframe = IsDistinct-from_count nat_list_eq_equiv _ refl
IsDistinct-header Iframe = IsDistinct-from_count nat_list_eq_equiv _ refl
IsDistinct-header Embeddable = IsDistinct-from_count nat_list_eq_equiv _ refl
IsDistinct-header (Other name) = IsDistinct-from_count nat_list_eq_equiv _ refl

names_of-own : (e : ElementValue) (kind : Kind) → names_of (own_members e kind) ≡ own_names kind
names_of-own e Rectangle = refl
names_of-own e Diamond = refl
names_of-own e Ellipse = refl
names_of-own e Arrow = refl
names_of-own e Line = refl
names_of-own e Freedraw = refl
names_of-own e Text = refl
names_of-own e Image = refl
names_of-own e Frame = refl
names_of-own e Magicframe = refl
names_of-own e Iframe = refl
names_of-own e Embeddable = refl
names_of-own e (Other name) = refl

pub names_of-header : (e : ElementValue) → names_of (header_members e) ≡ header_names ++ own_names e.kind
names_of-header e = ap (λ own. header_names ++ own) (names_of-own e e.kind)

not_header : (kind : Kind) (ys : List (List ℕ)) → AllByRecursion (λ y. is_header kind y ≡ false) ys
    → AllByRecursion (λ y. list_any (bytes_eq y) (header_names ++ own_names kind) ≡ false) ys
not_header kind [] h = tt
not_header kind (y ∷ ys) h = (list_any-append (bytes_eq y) header_names (own_names kind) ∙ h.0, not_header kind ys h.1)

-- ---- the names of an element's members, and of a binding's
pub IsDistinct-element : (e : ElementValue) → IsElement e
    → IsDistinct bytes_eq (names_of (header_members e ++ pairs e.rest))
IsDistinct-element e is =
    let named : names_of (header_members e ++ pairs e.rest) ≡ (header_names ++ own_names e.kind) ++ names e.rest =
    map-append name_of (header_members e) (pairs e.rest)
    ∙ ap (λ own. own ++ names_of (pairs e.rest)) (names_of-header e)
    ∙ ap (λ others. (header_names ++ own_names e.kind) ++ others) (names-pairs e.rest) in
    subst (IsDistinct bytes_eq) (sym named)
    (IsDistinct-append (header_names ++ own_names e.kind) (names e.rest) (IsDistinct-header e.kind)
    (IsDistinct-names e.rest is.rise)
    (not_header e.kind (names e.rest) (none_passes (is_header e.kind) (names e.rest) is.free)))

pub IsDistinct-binding : (binding : Binding) → IsBinding binding
    → IsDistinct bytes_eq (codes "elementId" ∷ names binding.rest)
unfolding IsDistinct
IsDistinct-binding binding is =
    (none_passes (bytes_eq (codes "elementId")) (names binding.rest) is.free, IsDistinct-names binding.rest is.rise)
