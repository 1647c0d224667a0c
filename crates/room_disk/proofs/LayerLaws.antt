-- The layers of elements stay where those without a key get one above all others.
use Rattle.std.proofs.Common.{◌≡◌, ℕ, Bool, true, false, ◌&&◌, ◌||◌, cond, not, List, [], ◌∷◌, Option, Some, None, Contains, bytes_eq, inl, inr, refl, sym, ap, ap₂, subst, ◌∙◌}
use Rattle.std.specs.Prelude.{if◌then◌else◌}
use Rattle.std.proofs.lemmas.Bool.{and_parts}
use Rattle.frac_keys.specs.Between.{key_between}
use Rattle.frac_keys.specs.Keys.{bytes_less}
use Rattle.frac_keys.specs.Rising.{are_rising, ends_rise, is_key_or_none, rise_between}
use Rattle.frac_keys.proofs.CallerLemmas.{key_between-law, bytes_less-asym, bytes_less-trans, ends_rise-none}
use Rattle.elem.specs.ElementValue.{ElementValue}
use Rattle.elem_store.specs.Updates.{ids_of}
use Rattle.elem_store.proofs.CallerLemmas.{Contains-cons, Contains-head, above}
use Rattle.index_repair.specs.Keyed.{HaveKeysOrNone}
use Rattle.view.specs.Shown.{comes_before, in_scene_order, is_live, live_elements, place_less, with_element}
use Rattle.room_disk.specs.Resuming.{IsAtMost, filled_above, greatest_key, last_behind, resumed, with_key_above}
use Rattle.room_disk.proofs.ResumeLaws.{greatest-key, keys-within, last-key}

-- ---- lists of two, element by element
abbrev AreZipped : (ElementValue → ElementValue → Type 0) → List ElementValue → List ElementValue → Type 0
AreZipped P [] [] = Unit {0}
AreZipped P [] (y ∷ ys) = ⊥
AreZipped P (x ∷ xs) [] = ⊥
AreZipped P (x ∷ xs) (y ∷ ys) = P x y × AreZipped P xs ys

zipped-as : (P Q : ElementValue → ElementValue → Type 0) (xs ys : List ElementValue)
    → ((x y : ElementValue) → Contains xs x → P x y → Q x y) → AreZipped P xs ys → AreZipped Q xs ys
zipped-as P Q [] [] weaker are = tt
zipped-as P Q [] (y ∷ ys) weaker are = absurd are
zipped-as P Q (x ∷ xs) [] weaker are = absurd are
zipped-as P Q (x ∷ xs) (y ∷ ys) weaker are = (
  weaker x y (Contains-head x xs) are.0,
  zipped-as P Q xs ys (λ z w c p. weaker z w (Contains-cons x xs z c) p)
      are.1,
)

zipped-both : (P Q : ElementValue → ElementValue → Type 0) (xs ys : List ElementValue) → AreZipped P xs ys
    → AreZipped Q xs ys → AreZipped (λ x y. P x y × Q x y) xs ys
zipped-both P Q [] [] ps qs = tt
zipped-both P Q [] (y ∷ ys) ps qs = absurd ps
zipped-both P Q (x ∷ xs) [] ps qs = absurd ps
zipped-both P Q (x ∷ xs) (y ∷ ys) ps qs = ((ps.0, qs.0), zipped-both P Q xs ys ps.1 qs.1)

-- ---- an element goes to the same place among others that are compared with it alike
placed : (P : ElementValue → ElementValue → Type 0) (e n x y : ElementValue) (xs ys moved news : List ElementValue)
    (b c : Bool) → b ≡ c → P e n → P x y → AreZipped P xs ys → AreZipped P moved news
    → AreZipped P (if b then x ∷ moved else e ∷ x ∷ xs) (if c then y ∷ news else n ∷ y ∷ ys)
placed P e n x y xs ys moved news true true same first second rest next = (second, next)
placed P e n x y xs ys moved news false false same first second rest next = (first, (second, rest))
placed P e n x y xs ys moved news true false same first second rest next = absurd cc
placed P e n x y xs ys moved news false true same first second rest next = absurd cc

module _ (P : ElementValue → ElementValue → Type 0) (e n : ElementValue) (first : P e n) where
  abbrev Both : ElementValue → ElementValue → Type 0
  Both x y = P x y × (comes_before x e ≡ comes_before y n)

  inserted : (xs ys : List ElementValue) → AreZipped Both xs ys
      → AreZipped P (with_element comes_before e xs) (with_element comes_before n ys)
  inserted [] [] are = (first, tt)
  inserted [] (y ∷ ys) are = absurd are
  inserted (x ∷ xs) [] are = absurd are
  inserted (x ∷ xs) (y ∷ ys) are =
      placed P e n x y xs ys (with_element comes_before e xs) (with_element comes_before n ys) (comes_before x e)
      (comes_before y n) are.0.1 first are.0.0
      (zipped-as Both P xs ys (λ z w c both. both.0) are.1) (inserted xs ys are.1)

-- ---- lists that are put into the same order
abbrev IsSame : ElementValue → ElementValue → Type 0
IsSame x y = (y.id ≡ x.id) × (y.deleted ≡ x.deleted)

abbrev AreAlike : List ElementValue → List ElementValue → Type 0
AreAlike [] [] = Unit {0}
AreAlike [] (n ∷ ns) = ⊥
AreAlike (e ∷ es) [] = ⊥
AreAlike (e ∷ es) (n ∷ ns) = IsSame e n × AreZipped (λ x y. comes_before x e ≡ comes_before y n) es ns × AreAlike es ns

sorted-alike : (P : ElementValue → ElementValue → Type 0) (es ns : List ElementValue) → AreAlike es ns
    → AreZipped P es ns → AreZipped P (in_scene_order es) (in_scene_order ns)
sorted-alike P [] [] alike are = tt
sorted-alike P [] (n ∷ ns) alike are = absurd are
sorted-alike P (e ∷ es) [] alike are = absurd are
sorted-alike P (e ∷ es) (n ∷ ns) alike are =
    inserted P e n are.0 (in_scene_order es) (in_scene_order ns)
    (zipped-both P (λ x y. comes_before x e ≡ comes_before y n) (in_scene_order es) (in_scene_order ns)
    (sorted-alike P es ns alike.2 are.1)
    (sorted-alike (λ x y. comes_before x e ≡ comes_before y n) es ns alike.2 alike.1))

same-all : (es ns : List ElementValue) → AreAlike es ns → AreZipped IsSame es ns
same-all [] [] alike = tt
same-all [] (n ∷ ns) alike = absurd alike
same-all (e ∷ es) [] alike = absurd alike
same-all (e ∷ es) (n ∷ ns) alike = (alike.0, same-all es ns alike.2)

same-ids : (es ns : List ElementValue) → AreZipped IsSame es ns → ids_of ns ≡ ids_of es
same-ids [] [] are = refl
same-ids [] (n ∷ ns) are = absurd are
same-ids (e ∷ es) [] are = absurd are
same-ids (e ∷ es) (n ∷ ns) are = ap₂ (λ (id : List ℕ) (ids : List (List ℕ)). id ∷ ids) are.0.0 (same-ids es ns are.1)

ordered-alike : (es ns : List ElementValue) → AreAlike es ns → ids_of (in_scene_order ns) ≡ ids_of (in_scene_order es)
ordered-alike es ns alike =
    same-ids (in_scene_order es) (in_scene_order ns) (sorted-alike IsSame es ns alike (same-all es ns alike))

-- ---- those of them that are live
live-cons : (P : ElementValue → ElementValue → Type 0) (e n : ElementValue) (es ns : List ElementValue) (b c : Bool)
    → b ≡ c → P e n → AreZipped P es ns
    → AreZipped P (cond b (e ∷ es) es) (cond c (n ∷ ns) ns)
live-cons P e n es ns true true same first rest = (first, rest)
live-cons P e n es ns false false same first rest = rest
live-cons P e n es ns true false same first rest = absurd cc
live-cons P e n es ns false true same first rest = absurd cc

live-zipped : (P : ElementValue → ElementValue → Type 0) (es ns : List ElementValue) → AreZipped IsSame es ns
    → AreZipped P es ns → AreZipped P (live_elements es) (live_elements ns)
live-zipped P [] [] same are = tt
live-zipped P [] (n ∷ ns) same are = absurd are
live-zipped P (e ∷ es) [] same are = absurd are
live-zipped P (e ∷ es) (n ∷ ns) same are =
    live-cons P e n (live_elements es) (live_elements ns) (is_live e) (is_live n) (sym (ap not same.0.1)) are.0
    (live-zipped P es ns same.1 are.1)

alike-cons : (e n : ElementValue) (es ns : List ElementValue) (b c : Bool) → b ≡ c → IsSame e n
    → AreZipped (λ x y. comes_before x e ≡ comes_before y n) es ns → AreAlike es ns
    → AreAlike (cond b (e ∷ es) es) (cond c (n ∷ ns) ns)
alike-cons e n es ns true true same first later rest = (first, later, rest)
alike-cons e n es ns false false same first later rest = rest
alike-cons e n es ns true false same first later rest = absurd cc
alike-cons e n es ns false true same first later rest = absurd cc

live-alike : (es ns : List ElementValue) → AreAlike es ns → AreAlike (live_elements es) (live_elements ns)
live-alike [] [] alike = tt
live-alike [] (n ∷ ns) alike = absurd alike
live-alike (e ∷ es) [] alike = absurd alike
live-alike (e ∷ es) (n ∷ ns) alike =
    alike-cons e n (live_elements es) (live_elements ns) (is_live e) (is_live n) (sym (ap not alike.0.1)) alike.0
    (live-zipped (λ x y. comes_before x e ≡ comes_before y n) es ns (same-all es ns alike.2) alike.1)
    (live-alike es ns alike.2)

-- ---- keys above others
under-more : (low : Option (List ℕ)) (middle key : List ℕ) → ends_rise low (Some middle) ≡ true
    → bytes_less middle key ≡ true → ends_rise low (Some key) ≡ true
under-more None middle key first second = refl
under-more (Some low) middle key first second = bytes_less-trans low middle key first second

most-under : (k : List ℕ) (greatest : Option (List ℕ)) (key : List ℕ) → IsAtMost k greatest
    → ends_rise greatest (Some key) ≡ true → bytes_less k key ≡ true
most-under k None key most under = absurd most
most-under k (Some greatest) key (inl same) under = subst (λ x. bytes_less x key ≡ true) (sym same) under
most-under k (Some greatest) key (inr less) under = bytes_less-trans k greatest key less under

-- the key of an element, that it had or that it got
IsLaidBy : Option (List ℕ) → Option (List ℕ) → Option (List ℕ) → ElementValue → Type 0
IsLaidBy (Some k) greatest last y = (y.index ≡ Some k) × IsAtMost k greatest
IsLaidBy None greatest last y =
    (key : List ℕ) × (y.index ≡ Some key) × (ends_rise last (Some key) ≡ true) × (ends_rise greatest (Some key) ≡ true)

abbrev IsLaid : Option (List ℕ) → Option (List ℕ) → ElementValue → ElementValue → Type 0
IsLaid greatest last x y = IsSame x y × IsLaidBy x.index greatest last y

abbrev IsAbove : Option (List ℕ) → Option (List ℕ) → Type 0
IsAbove last greatest = (key : List ℕ) → ends_rise last (Some key) ≡ true → ends_rise greatest (Some key) ≡ true

laid-first : (greatest last index : Option (List ℕ)) (e : ElementValue) → is_key_or_none last ≡ true
    → IsAbove last greatest → e.index ≡ index → ((k : List ℕ) → e.index ≡ Some k → IsAtMost k greatest)
    → IsLaid greatest last e (with_key_above index last e)
unfolding IsLaidBy
laid-first greatest last (Some k) e valid over is within =
    ((refl, refl), subst (λ index. IsLaidBy index greatest last e) (sym is) (is, within k is))
laid-first greatest last None e valid over is within =
    let between = key_between-law last None valid refl (ends_rise-none last) in (
      (refl, refl),
      subst (λ index. IsLaidBy index greatest last (with_key_above None last e)) (sym is)
          (key_between last None, refl, between.above, over (key_between last None) between.above),
    )

last-above : (index last greatest : Option (List ℕ)) → is_key_or_none last ≡ true → IsAbove last greatest
    → IsAbove (last_behind index last) greatest
last-above (Some key) last greatest valid over k under = over k under
last-above None None greatest valid over k under =
    under-more greatest (key_between None None) k
    (over (key_between None None) (key_between-law None None valid refl refl).above) under
last-above None (Some last) greatest valid over k under =
    under-more greatest (key_between (Some last) None) k
    (over (key_between (Some last) None) (key_between-law (Some last) None valid refl refl).above) under

last-rises : (index last : Option (List ℕ)) (key : List ℕ) → is_key_or_none last ≡ true
    → ends_rise (last_behind index last) (Some key) ≡ true → ends_rise last (Some key) ≡ true
last-rises index last key valid under = last-above index last last valid (λ k rises. rises) key under

laid-later : (greatest last index : Option (List ℕ)) (x y : ElementValue) (own : Option (List ℕ))
    → is_key_or_none last ≡ true → IsLaidBy own greatest (last_behind index last) y → IsLaidBy own greatest last y
unfolding IsLaidBy
laid-later greatest last index x y (Some k) valid laid = laid
laid-later greatest last index x y None valid laid = (laid.0, laid.1, last-rises index last laid.0 valid laid.2, laid.3)

laid : (greatest last : Option (List ℕ)) (es : List ElementValue) → is_key_or_none last ≡ true → IsAbove last greatest
    → ((e : ElementValue) (k : List ℕ) → Contains es e → e.index ≡ Some k → IsAtMost k greatest)
    → AreZipped (IsLaid greatest last) es (filled_above last es)
laid greatest last [] valid over within = tt
laid greatest last (e ∷ es) valid over within = (
  laid-first greatest last e.index e valid over refl (λ k is. within e k (Contains-head e es) is),
  zipped-as (IsLaid greatest (last_behind e.index last)) (IsLaid greatest last) es
      (filled_above (last_behind e.index last) es)
      (λ x y c is. (is.0, laid-later greatest last e.index x y x.index valid is.1))
      (laid greatest (last_behind e.index last) es (last-key e.index last valid)
      (last-above e.index last greatest valid over) (λ x k c is. within x k (Contains-cons e es x c) is)),
)

-- ---- comparing
behind : (key other : List ℕ) (id lower : List ℕ) → bytes_less other key ≡ true → bytes_less lower id ≡ true
    → false ≡ place_less (Some key) id (Some other) lower
behind key other id lower less rises =
    sym (rw (bytes_less-asym other key less, bytes_less-asym lower id rises) (none (bytes_eq key other)))
  where
    none : (b : Bool) → (false || (b && false)) ≡ false
    none true = refl
    none false = refl

before : (key other : List ℕ) (id lower : List ℕ) → bytes_less key other ≡ true
    → true ≡ place_less (Some key) id (Some other) lower
before key other id lower less = sym (rw less refl)

-- a later element and this one, where neither had a key, or one or both had
compared : (greatest last : Option (List ℕ)) (e x y : ElementValue) (index own : Option (List ℕ))
    → is_key_or_none last ≡ true → IsAbove last greatest → e.index ≡ index → x.index ≡ own
    → ((k : List ℕ) → e.index ≡ Some k → IsAtMost k greatest) → y.id ≡ x.id
    → IsLaidBy own greatest (last_behind index last) y → bytes_less e.id x.id ≡ true
    → place_less own x.id index e.id ≡ place_less y.index y.id (with_key_above index last e).index
    (with_key_above index last e).id
unfolding IsLaidBy
compared greatest last e x y (Some k) (Some own) valid over is has within named laid rises = rw (laid.0, named, is) refl
compared greatest last e x y (Some k) None valid over is has within named laid rises =
    rw (laid.1, named, is) (behind laid.0 k x.id e.id (most-under k greatest laid.0 (within k is) laid.3) rises)
compared greatest last e x y None (Some own) valid over is has within named laid rises =
    let key = key_between last None in
    rw (laid.0, named) (before own key x.id e.id (most-under own greatest key laid.1 (over key (new-above last valid))))
  where
    new-above : (last : Option (List ℕ)) → is_key_or_none last ≡ true → ends_rise last (Some (key_between last None))
        ≡ true
    new-above None valid = refl
    new-above (Some last) valid = (key_between-law (Some last) None valid refl refl).above
compared greatest last e x y None None valid over is has within named laid rises =
    rw (laid.1, named) (bytes_less-asym e.id x.id rises ∙ behind laid.0 (key_between last None) x.id e.id laid.2 rises)

filled-alike : (greatest last low : Option (List ℕ)) (es : List ElementValue) → is_key_or_none last ≡ true
    → IsAbove last greatest → rise_between low None (ids_of es) ≡ true
    → ((e : ElementValue) (k : List ℕ) → Contains es e → e.index ≡ Some k → IsAtMost k greatest)
    → AreAlike es (filled_above last es)
filled-alike greatest last low [] valid over rises within = tt
filled-alike greatest last low (e ∷ es) valid over rises within =
    let next = last_behind e.index last in
    let rest = (and_parts (ends_rise low (Some e.id)) (rise_between (Some e.id) None (ids_of es)) rises).1 in
    let own = λ (k : List ℕ) (is : e.index ≡ Some k). within e k (Contains-head e es) is in
    let others = λ (x : ElementValue) (k : List ℕ) (c : Contains es x) (is : x.index ≡ Some k). within x k
    (Contains-cons e es x c) is in (
      (laid-first greatest last e.index e valid over refl own).0,
      zipped-as (IsLaid greatest next) (λ x y. comes_before x e ≡ comes_before y (with_key_above e.index last e)) es
          (filled_above next es)
          (λ x y c is. compared greatest last e x y e.index x.index valid over refl refl own is.0.0 is.1
          (above e.id None es x rest c))
          (laid greatest next es (last-key e.index last valid) (last-above e.index last greatest valid over) others),
      filled-alike greatest next (Some e.id) es (last-key e.index last valid)
          (last-above e.index last greatest valid over) rest others,
    )

resumed-alike : (elements : List ElementValue) → are_rising (ids_of elements) ≡ true → HaveKeysOrNone elements
    → AreAlike elements (resumed elements)
resumed-alike elements rises keys =
    filled-alike (greatest_key None elements) (greatest_key None elements) None elements
    (greatest-key None elements refl keys) (λ key under. under) rises
    (λ e k c is. keys-within None elements e k c is)

-- the elements lie as they lay
pub layers-stay : (elements : List ElementValue) → are_rising (ids_of elements) ≡ true → HaveKeysOrNone elements
    → ids_of (in_scene_order (resumed elements)) ≡ ids_of (in_scene_order elements)
layers-stay elements rises keys = ordered-alike elements (resumed elements) (resumed-alike elements rises keys)

pub live-stay : (elements : List ElementValue) → are_rising (ids_of elements) ≡ true → HaveKeysOrNone elements
    → ids_of (in_scene_order (live_elements (resumed elements))) ≡ ids_of (in_scene_order (live_elements elements))
live-stay elements rises keys = ordered-alike (live_elements elements) (live_elements (resumed elements))
    (live-alike elements (resumed elements) (resumed-alike elements rises keys))
