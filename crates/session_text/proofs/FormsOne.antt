-- What is found under a name has a form or has it not, and stands for one thing alone.
use Rattle.std.proofs.Common.{◌≡◌, ◌≢◌, ◌⊎◌, inl, inr, ℕ, List, [], ◌∷◌, Option, Some, None, codes, decimal, bytes_eq, refl, sym, ap, ap₂, subst, ◌∙◌, arith, lit≤}
use Rattle.std.specs.List.{AllByRecursion}
use Rattle.std.proofs.lemmas.Bool.{cases_Bool, cases_lt, both_ways}
use Rattle.std.proofs.lemmas.Option.{same_Some}
use Rattle.json_text.specs.Characters.{quote}
use Rattle.json_text.specs.Compact.{Member as Pair}
use Rattle.json_text.specs.Value.{IsCompact}
use Rattle.json_text.specs.declared.text.Member.{Member}
use Rattle.scene_json.specs.Named.{value_at}
use Rattle.json_text.proofs.CallerLemmas.{bytes_eq-true, bytes_eq-same, Value-deeper, quote-starts, array-starts, object-starts, array-or-not, object-or-not, nests-or-not, heads-differ}
use Rattle.scene_json.proofs.CallerLemmas.{digit_of_decimal}
use Rattle.json_text.specs.FirstOccurrences.{first_texts}
use Rattle.elem.specs.Forms.{find_in, IsText, IsWholeNumber, IsObject, AreOthers}
use Rattle.elem.proofs.CallerLemmas.{text-once, whole-once, texts-once, members-once, others-once, array-once}
use Rattle.elem_read.proofs.CallerLemmas.{Decided, Fits, fits-in, text-or-not, texts-or-not, whole-or-not, others-exist}
use Rattle.board_commands.specs.declared.command.Spot.{Spot}
use Rattle.board_commands.specs.declared.command.Spot.TheVariants as placing
use Rattle.session_text.specs.Forms.{IsFrom, IsThere, IsArray, HasObject, IsShallow, AreIds, IsCapture, IsSide, IsSpotAfter, IsSpot, IsRest, IsPair, IsPick, ArePicks, HasPicks, capture_text}
use Rattle.board_commands.specs.declared.command.Capture.{Capture}
use Rattle.board_commands.specs.declared.command.Capture.TheVariants as capturing
use Rattle.session_text.specs.declared.event.Pick.{Pick}
use Rattle.session_text.specs.declared.event.Pick.TheVariants as chosen
use Rattle.session_text.proofs.Words.{AreTold, word-once, word-or-not, all_captures, captures-told, sides-told}

-- Whatever is found has the form or has it not, and stands for one thing alone.
pub record IsClear {A : Type 0} (IsForm : Option (List ℕ) → A → Type 0) : Type 0 where
  pub decided : (found : Option (List ℕ)) → Fits found → Decided (IsForm found)
  pub once : (found : Option (List ℕ)) (x y : A) → IsForm found x → IsForm found y → x ≡ y

-- ---- numbers
pub wholes : IsClear IsWholeNumber
wholes = record { decided = λ found fits. whole-or-not found; once = whole-once }

from-once : (least limit : ℕ) (found : Option (List ℕ)) (a b : ℕ) → IsFrom least limit found a
    → IsFrom least limit found b → a ≡ b
from-once least limit found a b one two = whole-once found a b one.0 two.0

from-or-not : (least limit : ℕ) (found : Option (List ℕ)) → Decided (IsFrom least limit found)
from-or-not least limit found = elim (whole-or-not found) [
  | inr none ↦ inr (λ n is. none n is.0)
  | inl (n, whole) ↦ elim (cases_lt n limit) [
    | inr above ↦ inr (λ m is. let same = whole-once found n m whole is.0 in absurd (omega (arith, is.2)))
    | inl below ↦ elim (cases_lt n least) [
      | inl less ↦ inr (λ m is. let same = whole-once found n m whole is.0 in absurd (omega (arith, is.1)))
      | inr least_on ↦ inl (n, (whole, (omega arith), below))
    ]
  ]
]

pub froms : (least limit : ℕ) → IsClear (IsFrom least limit)
froms least limit = record { decided = λ found fits. from-or-not least limit found; once = from-once least limit }

-- ---- values, arrays, objects
there-or-not : (found : Option (List ℕ)) → Decided (IsThere found)
there-or-not None = inr (λ v e. cc)
there-or-not (Some v) = inl (v, refl)

pub values : IsClear IsThere
values =
    record { decided = λ found fits. there-or-not found; once = λ found a b one two. same_Some _ _ (sym one ∙ two) }

array-decided : (found : Option (List ℕ)) → Fits found → Decided (IsArray found)
array-decided None fits = inr (λ items is. let e = is.1 in cc)
array-decided (Some value) fits = elim (array-or-not value fits) [
  | inl (items, all, e) ↦ inl (items, (all, ap Some e))
  | inr none ↦ inr (λ items is. none items (same_Some _ _ is.1))
]

pub array-alike : (found : Option (List ℕ)) (a b : List (List ℕ)) → IsArray found a → IsArray found b → a ≡ b
array-alike found a b one two = array-once a b one.0 two.0 (same_Some _ _ (sym one.1 ∙ two.1))

pub arrays : IsClear IsArray
arrays = record { decided = array-decided; once = array-alike }

pub object-decided : (value : List ℕ) → IsCompact 128 value → Decided (IsObject value)
object-decided value is = elim (object-or-not value is) [
  | inl (members, are, e) ↦ inl (members, record { are_members = are; spelled = e })
  | inr none ↦ inr (λ members object. none members object.spelled)
]

has-decided : (found : Option (List ℕ)) → Fits found → Decided (HasObject found)
has-decided None fits = inr (λ members is. let e = is.1 in cc)
has-decided (Some value) fits = elim (object-decided value fits) [
  | inl (members, object) ↦ inl (members, (value, refl, object))
  | inr none ↦ inr (λ members is. none members (subst (λ v. IsObject v members) (same_Some _ _ (sym is.1)) is.2))
]

has-once : (found : Option (List ℕ)) (a b : List Pair) → HasObject found a → HasObject found b → a ≡ b
has-once found a b one two =
    members-once two.0 a b (subst (λ v. IsObject v a) (same_Some _ _ (sym one.1 ∙ two.1)) one.2) two.2

pub objects : IsClear HasObject
objects = record { decided = has-decided; once = has-once }

shallow-decided : (found : Option (List ℕ)) → Fits found → Decided (IsShallow found)
shallow-decided None fits = inr (λ v is. let e = is.0 in cc)
shallow-decided (Some value) fits = elim (nests-or-not value 100 fits) [
  | inl is ↦ inl (value, (refl, is))
  | inr none ↦ inr (λ v is. none (subst (IsCompact 100) (same_Some _ _ (sym is.0)) is.1))
]

pub shallow : IsClear IsShallow
shallow = record { decided = shallow-decided; once = λ found a b one two. same_Some _ _ (sym one.0 ∙ two.0) }

-- ---- texts and words
pub texts : IsClear IsText
texts = record { decided = text-or-not; once = text-once }

ids-decided : (found : Option (List ℕ)) → Fits found → Decided (AreIds found)
ids-decided found fits = elim (texts-or-not found fits) [
  | inl (texts, are) ↦ inl (first_texts texts, (texts, are, refl))
  | inr none ↦ inr (λ ids is. none is.0 is.1)
]

ids-once : (found : Option (List ℕ)) (a b : List (List ℕ)) → AreIds found a → AreIds found b → a ≡ b
ids-once found a b one two = one.2 ∙ (ap first_texts (texts-once found one.0 two.0 one.1 two.1) ∙ sym two.2)

pub ids : IsClear AreIds
ids = record { decided = ids-decided; once = ids-once }

-- what is told by its word
pub told : {A : Type 0} (word : A → List ℕ) (xs : List A) → AreTold word xs
    → IsClear (λ found (x : A). found ≡ Some (word x))
told {A = A} word xs all = record { decided = decided; once = once }
  where
    decided : (found : Option (List ℕ)) → Fits found → Decided (λ (x : A). found ≡ Some (word x))
    decided None fits = inr (λ x e. cc)
    decided (Some value) fits = elim (word-or-not word xs all value) [
      | inl (x, e) ↦ inl (x, ap Some e)
      | inr none ↦ inr (λ x e. none x (same_Some _ _ e))
    ]

    once : (found : Option (List ℕ)) (x y : A) → found ≡ Some (word x) → found ≡ Some (word y) → x ≡ y
    once None x y e f = cc
    once (Some value) x y e f = word-once word xs all value x y (same_Some _ _ e) (same_Some _ _ f)

pub sides : IsClear IsSide
sides = told _ _ sides-told

capture-decided : (found : Option (List ℕ)) → Decided (IsCapture found)
capture-decided None = inl (capturing.Now, refl)
capture-decided (Some value) = word-or-not capture_text all_captures captures-told value

capture-once : (found : Option (List ℕ)) (a b : Capture) → IsCapture found a → IsCapture found b → a ≡ b
capture-once None a b one two = one ∙ sym two
capture-once (Some value) a b one two = word-once capture_text all_captures captures-told value a b one two

pub captures : IsClear IsCapture
captures = record { decided = λ found fits. capture-decided found; once = capture-once }

-- ---- spots
top_bottom : quote (codes "top") ≡ quote (codes "bottom") → ⊥
unfolding quote
top_bottom e = both_ways (bytes_eq (quote (codes "top")) (quote (codes "bottom"))) refl
    (ap (λ w. bytes_eq w (quote (codes "bottom"))) e ∙ bytes_eq-same (quote (codes "bottom")))

quote-object : (text : List ℕ) (value : List ℕ) (members : List Pair) → value ≡ quote text → IsObject value members → ⊥
quote-object text value members e object =
    let quoted = quote-starts text in
    let braced = object-starts members in
    heads-differ 34 123 quoted.0 braced.0 refl (sym quoted.1 ∙ (sym e ∙ (object.spelled ∙ braced.1)))

after-once : (value a b : List ℕ) → IsSpotAfter value a → IsSpotAfter value b → a ≡ b
after-once value a b one two =
    text-once (value_at (codes "after") two.0) a b
    (subst (λ ms. IsText (value_at (codes "after") ms) a) (members-once value one.0 two.0 one.1 two.1) one.2) two.2

spot-once : (found : Option (List ℕ)) (a b : Spot) → IsSpot found a → IsSpot found b → a ≡ b
spot-once None a b one two = one ∙ sym two
spot-once (Some value) placing.Top placing.Top one two = refl
spot-once (Some value) placing.Top placing.Bottom one two = absurd (top_bottom (sym one ∙ two))
spot-once (Some value) placing.Top (placing.After b) one two = absurd (quote-object (codes "top") value two.0 one two.1)
spot-once (Some value) placing.Bottom placing.Top one two = absurd (top_bottom (sym two ∙ one))
spot-once (Some value) placing.Bottom placing.Bottom one two = refl
spot-once (Some value) placing.Bottom (placing.After b) one two =
    absurd (quote-object (codes "bottom") value two.0 one two.1)
spot-once (Some value) (placing.After a) placing.Top one two = absurd (quote-object (codes "top") value one.0 two one.1)
spot-once (Some value) (placing.After a) placing.Bottom one two =
    absurd (quote-object (codes "bottom") value one.0 two one.1)
spot-once (Some value) (placing.After a) (placing.After b) one two =
    ap (λ id. placing.After id) (after-once value a b one two)

after-decided : (value : List ℕ) → IsCompact 128 value → Decided (IsSpotAfter value)
after-decided value is = elim (object-decided value is) [
  | inr none ↦ inr (λ id after. none after.0 after.1)
  | inl (members, object) ↦ elim (text-or-not (value_at (codes "after") members)
      (fits-in 127 members (lit≤ tt) object.are_members (codes "after"))) [
        | inl (id, named) ↦ inl (id, (members, object, named))
        | inr none ↦ inr (λ id after. none id
            (subst (λ ms. IsText (value_at (codes "after") ms) id) (members-once value after.0 members after.1 object)
            after.2))
      ]
]

pub no-spot : (value : List ℕ) → value ≢ quote (codes "top") → value ≢ quote (codes "bottom")
    → ((id : List ℕ) → IsSpotAfter value id → ⊥) → (spot : Spot) → IsSpot (Some value) spot → ⊥
no-spot value top bottom after placing.Top is = top is
no-spot value top bottom after placing.Bottom is = bottom is
no-spot value top bottom after (placing.After id) is = after id is

is-or-not : (value wanted : List ℕ) → (value ≡ wanted) ⊎ (value ≢ wanted)
is-or-not value wanted = elim (cases_Bool (bytes_eq value wanted)) [
  | inl e ↦ inl (bytes_eq-true value wanted e)
  | inr e ↦ inr (λ same. both_ways (bytes_eq value wanted) e (ap (λ v. bytes_eq v wanted) same ∙ bytes_eq-same wanted))
]

spot-decided : (found : Option (List ℕ)) → Fits found → Decided (IsSpot found)
spot-decided None fits = inl (placing.Top, refl)
spot-decided (Some value) fits = elim (is-or-not value (quote (codes "top"))) [
  | inl top ↦ inl (placing.Top, top)
  | inr top ↦ elim (is-or-not value (quote (codes "bottom"))) [
    | inl bottom ↦ inl (placing.Bottom, bottom)
    | inr bottom ↦ elim (after-decided value fits) [
      | inl (id, after) ↦ inl (placing.After id, after)
      | inr none ↦ inr (no-spot value top bottom none)
    ]
  ]
]

pub spots : IsClear IsSpot
spots = record { decided = spot-decided; once = spot-once }

-- ---- bindings
rest-decided : (found : Option (List ℕ)) → Fits found → Decided (IsRest found)
rest-decided None fits = inl ([], refl)
rest-decided (Some value) fits = elim (nests-or-not value 100 fits) [
  | inr none ↦ inr (λ rest is. none is.0)
  | inl shallow ↦ elim (object-decided value fits) [
    | inr none ↦ inr (λ rest is. none is.1.0 is.1.1)
    | inl (members, object) ↦
        let others = others-exist (bytes_eq (codes "elementId")) members in
        inl (others.0, (shallow, (members, object, others.1)))
  ]
]

rest-once : (found : Option (List ℕ)) (a b : List Member) → IsRest found a → IsRest found b → a ≡ b
rest-once None a b one two = one ∙ sym two
rest-once (Some value) a b (deep, (members, object, are)) (deep', (others, object', are')) =
    others-once (bytes_eq (codes "elementId")) (find_in others) a b
    (subst (λ (ms : List Pair). AreOthers (bytes_eq (codes "elementId")) (find_in ms) a)
    (members-once value members others object object') are) are'

pub rests : IsClear IsRest
rests = record { decided = rest-decided; once = rest-once }

-- ---- picks
-- a number is no array
pub number-array : (item : List ℕ) (n : ℕ) (parts : List (List ℕ)) → IsWholeNumber (Some item) n
    → IsArray (Some item) parts → ⊥
number-array item n parts whole array =
    let starts = array-starts parts in
    let is : item ≡ 91 ∷ starts.0 = same_Some _ _ array.1 ∙ starts.1 in
    let digits : 91 ∷ starts.0 ≡ decimal n = sym is ∙ same_Some _ _ whole.1 in
    let range = digit_of_decimal (91 ∷ starts.0) n 0 (omega (arith, whole.0)) digits (omega arith) in
    absurd (omega (arith, range.1))

pair-once : (made : ℕ) (parts : List (List ℕ)) (a b : ℕ × ℕ) → IsPair made parts a → IsPair made parts b → a ≡ b
pair-once made parts a b (first, second, e, from, whole) (first', second', e', from', whole') =
    let heads : first' ≡ first = head-same (sym e' ∙ e) in
    let seconds : second' ≡ second = second-same (sym e' ∙ e) in
    ap₂ (λ m i. (m, i)) (from-once 0 made (Some first) a.0 b.0 from
    (subst (λ v. IsFrom 0 made (Some v) b.0) heads from'))
    (whole-once (Some second) a.1 b.1 whole (subst (λ v. IsWholeNumber (Some v) b.1) seconds whole'))
  where
    head-same : {x y : List ℕ} {xs ys : List (List ℕ)} → x ∷ xs ≡ y ∷ ys → x ≡ y
    head-same e = cc

    second-same : {x y u v : List ℕ} → x ∷ u ∷ [] ≡ y ∷ v ∷ [] → u ≡ v
    second-same e = cc

pick-once : (made : ℕ) (item : List ℕ) (a b : Pick) → IsPick made item a → IsPick made item b → a ≡ b
pick-once made item (chosen.All m) (chosen.All n) one two =
    ap (λ k. chosen.All k) (from-once 0 made (Some item) m n one two)
pick-once made item (chosen.All m) (chosen.One n i) one two = absurd (number-array item m two.0 one.0 two.1)
pick-once made item (chosen.One m i) (chosen.All n) one two = absurd (number-array item n one.0 two.0 one.1)
pick-once made item (chosen.One m i) (chosen.One n j) (parts, array, pair) (parts', array', pair') =
    let same = array-alike (Some item) parts' parts array' array in
    ap (λ (p : ℕ × ℕ). chosen.One p.0 p.1)
    (pair-once made parts (m, i) (n, j) pair (subst (λ ps. IsPair made ps (n, j)) same pair'))

pair-decided : (made : ℕ) (parts : List (List ℕ)) → Decided (IsPair made parts)
pair-decided made [] = inr (λ pair is. let e = is.2 in cc)
pair-decided made (first ∷ []) = inr (λ pair is. let e = is.2 in cc)
pair-decided made (first ∷ second ∷ third ∷ more) = inr (λ pair is. let e = is.2 in cc)
pair-decided made (first ∷ second ∷ []) = elim (from-or-not 0 made (Some first)) [
  | inr none ↦ inr (λ pair is. none pair.0 (subst (λ v. IsFrom 0 made (Some v) pair.0) (let e = is.2 in cc) is.3))
  | inl (m, from) ↦ elim (whole-or-not (Some second)) [
    | inr none ↦ inr (λ pair is. none pair.1 (subst (λ v. IsWholeNumber (Some v) pair.1) (let e = is.2 in cc) is.4))
    | inl (i, whole) ↦ inl ((m, i), (first, second, refl, from, whole))
  ]
]

pub no-pick : (made : ℕ) (item : List ℕ) → ((m : ℕ) → IsFrom 0 made (Some item) m → ⊥)
    → ((parts : List (List ℕ)) (pair : ℕ × ℕ) → IsArray (Some item) parts → IsPair made parts pair → ⊥)
    → (pick : Pick) → IsPick made item pick → ⊥
no-pick made item number pair (chosen.All m) is = number m is
no-pick made item number pair (chosen.One m i) is = pair is.0 (m, i) is.1 is.2

pick-decided : (made : ℕ) (item : List ℕ) → IsCompact 128 item → Decided (IsPick made item)
pick-decided made item is = elim (array-decided (Some item) is) [
  | inr none ↦ elim (from-or-not 0 made (Some item)) [
    | inl (m, from) ↦ inl (chosen.All m, from)
    | inr lacks ↦ inr (no-pick made item lacks (λ parts pair array two. none parts array))
  ]
  | inl (parts, array) ↦ elim (pair-decided made parts) [
    | inl (pair, two) ↦ inl (chosen.One pair.0 pair.1, (parts, array, two))
    | inr none ↦ inr (no-pick made item (λ m from. number-array item m parts from.0 array)
        (λ others pair also two. none pair
        (subst (λ ps. IsPair made ps pair) (array-alike (Some item) others parts also array) two)))
  ]
]

picks-once : (made : ℕ) (items : List (List ℕ)) (a b : List Pick) → ArePicks made items a → ArePicks made items b
    → a ≡ b
picks-once made [] a b one two = one ∙ sym two
picks-once made (item ∷ items) a b (p, ps, e, is, are) (q, qs, f, also, others) =
    e ∙ (ap₂ (λ x xs. x ∷ xs) (pick-once made item p q is also) (picks-once made items ps qs are others) ∙ sym f)

picks-decided : (made : ℕ) (items : List (List ℕ)) → AllByRecursion (IsCompact 127) items
    → Decided (ArePicks made items)
picks-decided made [] all = inl ([], refl)
picks-decided made (item ∷ items) all = elim (pick-decided made item (Value-deeper (lit≤ tt) all.0)) [
  | inr none ↦ inr (λ ps are. none are.0 are.3)
  | inl (pick, is) ↦ elim (picks-decided made items all.1) [
    | inr none ↦ inr (λ ps are. none are.1 are.4)
    | inl (others, are) ↦ inl (pick ∷ others, (pick, others, refl, is, are))
  ]
]

has_picks-decided : (made : ℕ) (found : Option (List ℕ)) → Fits found → Decided (HasPicks made found)
has_picks-decided made found fits = elim (array-decided found fits) [
  | inr none ↦ inr (λ ps has. none has.0 has.1)
  | inl (items, array) ↦ elim (picks-decided made items array.0) [
    | inl (ps, are) ↦ inl (ps, (items, array, are))
    | inr none ↦ inr (λ ps has. none ps (subst (λ is. ArePicks made is ps) (array-alike found has.0 items has.1 array)
        has.2))
  ]
]

has_picks-once : (made : ℕ) (found : Option (List ℕ)) (a b : List Pick) → HasPicks made found a
    → HasPicks made found b → a ≡ b
has_picks-once made found a b (items, array, are) (others, array', are') =
    picks-once made others a b (subst (λ is. ArePicks made is a) (array-alike found items others array array') are) are'

pub picked : (made : ℕ) → IsClear (HasPicks made)
picked made = record { decided = has_picks-decided made; once = has_picks-once made }
