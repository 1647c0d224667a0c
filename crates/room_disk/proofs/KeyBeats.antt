-- An element that gets a key in place of none beats what it was: its text is less.
use Rattle.std.proofs.Common.{◌≡◌, ℕ, Bool, true, false, ◌&&◌, ◌||◌, ◌==◌, List, [], ◌∷◌, ◌++◌, map, None, codes, decimal, nat_lt, refl, sym, ap, ap₂, ◌∙◌, append-nil, append_assoc}
use Rattle.std.specs.Prelude.{if◌then◌else◌}
use Rattle.std.specs.Cmp.Lexicographic.{slice_cmp}
use Rattle.std.specs.List.{join_with_byte}
use Rattle.std.specs.Ordering.{nat_cmp}
use Rattle.std.proofs.lemmas.Bool.Decides.{nat_tests}
use Rattle.std.proofs.Common.{arith}
use Rattle.json_text.specs.Characters.{quote}
use Rattle.json_text.specs.Compact.{Member as Pair, array_text, member_text, object_text}
use Rattle.json_text.specs.Members.{pairs}
use Rattle.json_text.specs.Tree.{null_word}
use Rattle.frac_keys.specs.Keys.{bytes_less}
use Rattle.frac_keys.proofs.CallerLemmas.{alike}
use Rattle.elem.specs.ElementValue.{ElementValue}
use Rattle.elem.specs.Order.{beats, text_less}
use Rattle.elem.specs.Texts.{bound_text, element_members, element_text, header_members, kind_name, own_members, sorted_members, text_or_null, truth_text, with_member}
use Rattle.elem.specs.declared.kind.Kind.{Kind}
use Rattle.elem.specs.declared.kind.Kind.TheVariants.{Rectangle, Diamond, Ellipse, Arrow, Line, Freedraw, Text, Image, Frame, Magicframe, Iframe, Embeddable, Other}
use Rattle.index_repair.specs.Keyed.{with_index}

-- ---- less bytes

less_front : (front a b : List ℕ) → bytes_less a b ≡ true → bytes_less (front ++ a) (front ++ b) ≡ true
less_front [] a b less = less
less_front (x ∷ front) a b less = alike x (slice_cmp nat_cmp (front ++ a) (front ++ b)) (less_front front a b less)

key_less : (key after : List ℕ) → bytes_less (quote key ++ after) (null_word ++ after) ≡ true
unfolding quote
key_less key after = refl

-- ---- members that differ in one value
module _ (name one other : List ℕ) where
  record AreApart (xs ys : List Pair) : Type 0 where
    front : List Pair
    back : List Pair
    first : xs ≡ front ++ (name, one) ∷ back
    second : ys ≡ front ++ (name, other) ∷ back

  apart : (front back : List Pair) → AreApart (front ++ (name, one) ∷ back) (front ++ (name, other) ∷ back)
  apart front back = record { front = front; back = back; first = refl; second = refl }

  before : (b : Bool) (m : Pair) (back : List Pair)
      → AreApart (if b then (name, one) ∷ with_member m back else m ∷ (name, one) ∷ back) (if b then (name, other)
      ∷ with_member m back else m ∷ (name, other) ∷ back)
  before true m back = apart [] (with_member m back)
  before false m back = apart (m ∷ []) back

  behind : (b : Bool) (m f : Pair) (xs ys front back : List Pair) → AreApart xs ys
      → AreApart (if b then f ∷ xs else m ∷ f ∷ (front ++ (name, one) ∷ back)) (if b then f ∷ ys else m ∷ f
      ∷ (front ++ (name, other) ∷ back))
  behind true m f xs ys front back are = record {
    front = f ∷ are.front;
    back = are.back;
    first =
        ap (λ l. f ∷ l) are.first;
    second = ap (λ l. f ∷ l) are.second;
  }
  behind false m f xs ys front back are = apart (m ∷ f ∷ front) back

  inserted : (m : Pair) (front back : List Pair)
      → AreApart (with_member m (front ++ (name, one) ∷ back)) (with_member m (front ++ (name, other) ∷ back))
  inserted m [] back = before (bytes_less name m.0) m back
  inserted m (f ∷ front) back = behind (bytes_less f.0 m.0) m f _ _ front back (inserted m front back)

  within : (b : Bool) (f : Pair) (xs ys others : List Pair) → AreApart xs ys
      → AreApart (if b then f ∷ xs else (name, one) ∷ f ∷ others) (if b then f ∷ ys else (name, other) ∷ f ∷ others)
  within true f xs ys others are = record {
    front = f ∷ are.front;
    back = are.back;
    first = ap (λ l. f ∷ l) are.first;
    second = ap (λ l. f ∷ l) are.second;
  }
  within false f xs ys others are = apart [] (f ∷ others)

  placed : (xs : List Pair) → AreApart (with_member (name, one) xs) (with_member (name, other) xs)
  placed [] = apart [] []
  placed (f ∷ xs) = within (bytes_less f.0 name) f _ _ xs (placed xs)

  sorted : (front back : List Pair) → AreApart (sorted_members (front ++ (name, one) ∷ back))
      (sorted_members (front ++ (name, other) ∷ back))
  sorted [] back = placed (sorted_members back)
  sorted (f ∷ front) back =
      let others = sorted front back in
      let all = inserted f others.front others.back in
      record {
        front = all.front;
        back = all.back;
        first = ap (with_member f) others.first
            ∙ all.first;
        second = ap (with_member f) others.second ∙ all.second;
      }

-- ---- their texts
texts_before : List Pair → List ℕ
texts_before [] = []
texts_before (m ∷ ms) = member_text m ++ 44 ∷ texts_before ms

texts_behind : List Pair → List ℕ
texts_behind [] = []
texts_behind (m ∷ ms) = 44 ∷ join_with_byte 44 (map member_text (m ∷ ms))

joined : (front : List Pair) (m : Pair) (back : List Pair) → join_with_byte 44 (map member_text (front ++ m ∷ back))
    ≡ texts_before front ++ (member_text m ++ texts_behind back)
unfolding texts_before texts_behind
joined [] m [] = sym (append-nil (member_text m))
joined [] m (b ∷ back) = refl
joined (f ∷ []) m back = ap (λ t. member_text f ++ 44 ∷ t) (joined [] m back)
    ∙ sym (append_assoc (member_text f) (44 ∷ []) (member_text m ++ texts_behind back))
joined (f ∷ g ∷ front) m back = ap (λ t. member_text f ++ 44 ∷ t) (joined (g ∷ front) m back)
    ∙ sym (append_assoc (member_text f) (44 ∷ texts_before (g ∷ front)) (member_text m ++ texts_behind back))

abbrev text_front : List Pair → List ℕ → List ℕ
text_front front name = 123 ∷ (texts_before front ++ (quote name ++ 58 ∷ []))

text_parts : (front : List Pair) (name value : List ℕ) (back : List Pair)
    → object_text (front ++ (name, value) ∷ back) ≡ text_front front name ++ (value ++ (texts_behind back ++ 125 ∷ []))
unfolding object_text
text_parts front name value back =
    let t = texts_before front in
    let q = quote name in
    let v = texts_behind back in
    ap (λ j. 123 ∷ (j ++ 125 ∷ [])) (joined front (name, value) back)
    ∙ ap (λ j. 123 ∷ j) (
    append_assoc t ((q ++ 58 ∷ value) ++ v) (125 ∷ [])
    ∙ ap (λ j. t ++ j) (append_assoc (q ++ 58 ∷ value) v (125 ∷ []) ∙ append_assoc q (58 ∷ value) (v ++ 125 ∷ [])
    ∙ sym (append_assoc q (58 ∷ []) (value ++ (v ++ 125 ∷ []))))
    ∙ sym (append_assoc t (q ++ 58 ∷ []) (value ++ (v ++ 125 ∷ [])))
    )

-- ---- an element
own_same : (e : ElementValue) (key : List ℕ) (kind : Kind) → own_members (with_index e key) kind ≡ own_members e kind
own_same e key Text = refl
own_same e key Arrow = refl
own_same e key Image = refl
own_same e key Rectangle = refl
own_same e key Diamond = refl
own_same e key Ellipse = refl
own_same e key Line = refl
own_same e key Freedraw = refl
own_same e key Frame = refl
own_same e key Magicframe = refl
own_same e key Iframe = refl
own_same e key Embeddable = refl
own_same e key (Other name) = refl

abbrev front_members : ElementValue → List Pair
front_members e =
    (codes "id", quote e.id) ∷ (codes "type", quote (kind_name e.kind))
    ∷ (codes "version", decimal e.version) ∷ (codes "versionNonce", decimal e.nonce)
    ∷ (codes "updated", decimal e.updated)
    ∷ (codes "isDeleted", truth_text e.deleted) ∷ []

abbrev back_members : ElementValue → List Pair → List Pair
back_members e own =
    (codes "groupIds", array_text (map quote e.groups)) ∷ (codes "frameId", text_or_null e.frame)
    ∷ (codes "boundElements", array_text (map bound_text e.bound)) ∷ (own ++ pairs e.rest)

members_keyed : (e : ElementValue) (key : List ℕ)
    → header_members (with_index e key) ++ pairs e.rest ≡ front_members e ++ (codes "index", quote key)
    ∷ back_members e (own_members e e.kind)
members_keyed e key =
    ap (λ own. front_members e ++ (codes "index", quote key) ∷ back_members e own) (own_same e key e.kind)

members_bare : (e : ElementValue) → e.index ≡ None → header_members e ++ pairs e.rest ≡ front_members e
    ++ (codes "index", null_word) ∷ back_members e (own_members e e.kind)
members_bare e none =
    ap (λ index. front_members e ++ (codes "index", text_or_null index) ∷ back_members e (own_members e e.kind)) none

text_is_less : (e : ElementValue) (key : List ℕ) → e.index ≡ None → text_less (with_index e key) e ≡ true
unfolding text_less element_members
text_is_less e key none =
    let are = sorted (codes "index") (quote key) null_word (front_members e) (back_members e (own_members e e.kind)) in
    let keyed : element_text (with_index e key) ≡ text_front are.front (codes "index")
    ++ (quote key ++ (texts_behind are.back ++ 125 ∷ [])) =
    ap (λ ms. object_text (sorted_members ms)) (members_keyed e key) ∙ ap object_text are.first
    ∙ text_parts are.front (codes "index") (quote key) are.back in
    let bare : element_text e ≡ text_front are.front (codes "index")
    ++ (null_word ++ (texts_behind are.back ++ 125 ∷ [])) =
    ap (λ ms. object_text (sorted_members ms)) (members_bare e none) ∙ ap object_text are.second
    ∙ text_parts are.front (codes "index") null_word are.back in
    ap₂ bytes_less keyed bare ∙ less_front (text_front are.front (codes "index")) _ _
    (key_less key (texts_behind are.back ++ 125 ∷ []))

by_text : (version nonce : ℕ) (less : Bool) → less ≡ true
    → nat_lt version version || (version == version && (nat_lt nonce nonce || (nonce == nonce && less))) ≡ true
by_text version nonce less is = grind (arith, nat_tests)

pub key-beats : (e : ElementValue) (key : List ℕ) → e.index ≡ None → beats (with_index e key) e ≡ true
key-beats e key none = by_text e.version e.nonce (text_less (with_index e key) e) (text_is_less e key none)
