-- The scene order of elements with one more, and without one.
use Rattle.std.proofs.Common.{◌≡◌, ℕ, zero, suc, ◌<◌, true, false, not, List, [], ◌∷◌, length, take, drop, insert, remove, map, filter, get_or, Some, None, Contains, Ordering, is_lt, bytes_eq, refl, sym, ap, ap₂, ◌∙◌, subst, arith, take-append-drop}
use Rattle.std.specs.Ordering.{ordering_reverse}
use Rattle.std.specs.List.{AllByRecursion, IsDistinct}
use Rattle.std.specs.List.Sorted.{IsPermutation}
use Rattle.std.specs.Option.{unwrap_or}
use Rattle.std.specs.declared.cmp.Ordering.TheVariants.{Less, Equal, Greater}
use Rattle.std.proofs.lemmas.Bool.{cond-true, cond-false}
use Rattle.frac_keys.specs.Rising.{are_rising}
use Rattle.frac_keys.proofs.CallerLemmas.{rise_between-filter}
use Rattle.std.proofs.lemmas.List.Sorted.{IsPermutation-refl, IsPermutation-sym, IsPermutation-trans, IsPermutation-middle, IsPermutation-cons, Contains-permutation}
use Rattle.elem.specs.ElementValue.{ElementValue}
use Rattle.elem.specs.Order.{HaveDistinctIds}
use Rattle.elem_store.specs.Updates.{element_of, ids_of}
use Rattle.elem_store.proofs.CallerLemmas.{of_itself, Contains-head, Contains-cons, member}
use Rattle.view.specs.Shown.{as_stored, comes_before, with_element, in_scene_order, AreInSceneOrder, IsView}
use Rattle.view.proofs.CallerLemmas.{in_order-permuted, place_cmp, place_cmp-total, comes_before-cmp, scene_order, IsPermutation-in_scene_order, shown-is}
use Rattle.json_text.proofs.CallerLemmas.{bytes_eq-flip}
use Rattle.kept_view.specs.inner.Coming.{all_stored, IsPlaceFor}

-- ---- before, and behind
less-from : (o : Ordering) → is_lt o ≡ true → o ≡ Less
less-from Less h = refl
less-from Equal h = cc
less-from Greater h = cc

before-less : (e f : ElementValue) → comes_before e f ≡ true → place_cmp e f ≡ Less
before-less e f h = less-from (place_cmp e f) (sym (comes_before-cmp e f) ∙ h)

pub before-trans : (e f g : ElementValue) → comes_before e f ≡ true → comes_before f g ≡ true → comes_before e g ≡ true
before-trans e f g h k =
    comes_before-cmp e g ∙ ap is_lt (place_cmp-total.trans e f g (before-less e f h) (before-less f g k))

pub not-before : (e f : ElementValue) → comes_before e f ≡ true → comes_before f e ≡ false
not-before e f h =
    comes_before-cmp f e ∙ ap is_lt (place_cmp-total.antisymm f e ∙ ap ordering_reverse (before-less e f h))

-- ---- one more at its place
rest-place : (f : ElementValue) (fs : List ElementValue) (e : ElementValue) (n : ℕ) → IsPlaceFor (f ∷ fs) e (suc n)
    → IsPlaceFor fs e n
rest-place f fs e n is = record {
  within = let l = is.within in omega arith;
  before = λ i d h. is.before (suc i) d (omega arith);
  behind = λ d l. is.behind d (omega arith);
}

pub with-place : (es : List ElementValue) (e : ElementValue) (place : ℕ) → AreInSceneOrder es → IsPlaceFor es e place
    → with_element comes_before e es ≡ insert es place e
with-place [] e zero sorted is = refl
with-place [] e (suc n) sorted is = let l = is.within in absurd (omega arith)
with-place (f ∷ fs) e zero sorted is =
    cond-false (comes_before f e) (f ∷ with_element comes_before e fs) (e ∷ f ∷ fs)
    (not-before e f (is.behind f (omega arith)))
with-place (f ∷ fs) e (suc n) sorted is =
    cond-true (comes_before f e) (f ∷ with_element comes_before e fs) (e ∷ f ∷ fs) (first n is)
    ∙ ap (λ rest. f ∷ rest) (with-place fs e n (λ i j d l m. sorted (suc i) (suc j) d (omega arith) (omega arith))
    (rest-place f fs e n is))
  where
    first : (n : ℕ) → IsPlaceFor (f ∷ fs) e (suc n) → comes_before f e ≡ true
    first zero is = is.before 0 f (omega arith)
    first (suc n) is = before-trans f (get_or fs n f) e (sorted 0 (suc n) f (omega arith) (let l = is.within in
        omega arith)) (is.before (suc n) f (omega arith))

-- the elements in their order with one more, which comes anywhere among them
pub order-with : (es after : List ElementValue) (e : ElementValue) (place : ℕ) → AreInSceneOrder (in_scene_order es)
    → HaveDistinctIds (e ∷ es) → IsPermutation (e ∷ es) after → IsPlaceFor (in_scene_order es) e place
    → in_scene_order after ≡ insert (in_scene_order es) place e
order-with es after e place sorted apart moved is =
    in_order-permuted scene_order (e ∷ es) after apart moved ∙ with-place (in_scene_order es) e place sorted is

-- ---- the shown elements as they are stored are those in scene order
own-stored : (live : List ElementValue) (es drawn : List ElementValue) → ids_of drawn ≡ ids_of es
    → ((e : ElementValue) → Contains es e → element_of live e.id ≡ Some e) → map (as_stored live) drawn ≡ es
own-stored live [] [] ids each = refl
own-stored live [] (d ∷ drawn) ids each = cc
own-stored live (e ∷ es) [] ids each = cc
own-stored live (e ∷ es) (d ∷ drawn) ids each =
    let id : d.id ≡ e.id = cc in
    ap₂ (λ x xs. x ∷ xs)
    (ap (λ o. unwrap_or o d) (ap (element_of live) id ∙ each e (Contains-head e es)))
    (own-stored live es drawn (cc) (λ x c. each x (Contains-cons e es x c)))

pub stored-order : (live drawn : List ElementValue) → IsView live drawn → all_stored live drawn ≡ in_scene_order live
stored-order live drawn view =
    own-stored live (in_scene_order live) drawn (ap ids_of view.exact ∙ (shown-is live view.keys).along)
    (λ e c. member None None live e view.ordered
    (Contains-permutation (in_scene_order live) live e (IsPermutation-sym _ _ (IsPermutation-in_scene_order live))
    c))

-- ---- a list with one more, or without one
pub map-insert : {X Y : Type 0} (f : X → Y) (xs : List X) (i : ℕ) (x : X)
    → map f (insert xs i x) ≡ insert (map f xs) i (f x)
map-insert f xs zero x = refl
map-insert f [] (suc i) x = refl
map-insert f (y ∷ xs) (suc i) x = ap (λ ys. f y ∷ ys) (map-insert f xs i x)

pub map-remove : {X Y : Type 0} (f : X → Y) (xs : List X) (i : ℕ) → map f (remove xs i) ≡ remove (map f xs) i
map-remove f [] zero = refl
map-remove f [] (suc i) = refl
map-remove f (y ∷ xs) zero = refl
map-remove f (y ∷ xs) (suc i) = ap (λ ys. f y ∷ ys) (map-remove f xs i)

pub insert-moved : {X : Type 0} (xs : List X) (i : ℕ) (x : X) → IsPermutation (x ∷ xs) (insert xs i x)
insert-moved xs i x =
    IsPermutation-sym _ _ (subst (λ ys. IsPermutation (insert xs i x) (x ∷ ys)) (take-append-drop i xs)
    (IsPermutation-middle (take i xs) x (drop i xs)))

pub removed-moved : {X : Type 0} (xs : List X) (i : ℕ) (x : X) → i < length xs → get_or xs i x ≡ x
    → IsPermutation (x ∷ remove xs i) xs
removed-moved [] i x l is = absurd (omega arith)
removed-moved (y ∷ xs) zero x l is = subst (λ z. IsPermutation (z ∷ xs) (y ∷ xs)) is (IsPermutation-refl (y ∷ xs))
removed-moved (y ∷ xs) (suc i) x l is =
    IsPermutation-trans (x ∷ y ∷ remove xs i) (y ∷ x ∷ remove xs i) (y ∷ xs)
    (IsPermutation-sym _ _ (IsPermutation-middle (y ∷ []) x (remove xs i)))
    (IsPermutation-cons y (x ∷ remove xs i) xs (removed-moved xs i x (omega arith) is))

-- ---- without the element of an id
abbrev pub others_than : List ℕ → List ElementValue → List ElementValue
others_than id es = filter (λ (e : ElementValue). not (bytes_eq id e.id)) es

pub others-apart : (id : List ℕ) (es : List ElementValue)
    → ((e : ElementValue) → Contains es e → bytes_eq id e.id ≡ false) → others_than id es ≡ es
others-apart id [] apart = refl
others-apart id (e ∷ es) apart =
    rw (apart e (Contains-head e es)) (ap (λ xs. e ∷ xs) (others-apart id es (λ x c. apart x (Contains-cons e es x c))))

apart-of : (id : List ℕ) (es : List ElementValue) → AllByRecursion (λ other. bytes_eq id other ≡ false) (ids_of es)
    → others_than id es ≡ es
apart-of id [] all = refl
apart-of id (e ∷ es) all = rw all.0 (ap (λ xs. e ∷ xs) (apart-of id es all.1))

apart-at : (id : List ℕ) (es : List ElementValue) (i : ℕ) (e : ElementValue)
    → AllByRecursion (λ other. bytes_eq id other ≡ false) (ids_of es) → i < length es → get_or es i e ≡ e
    → bytes_eq id e.id ≡ false
apart-at id [] i e all l is = absurd (omega arith)
apart-at id (x ∷ es) zero e all l is = ap (λ (y : ElementValue). bytes_eq id y.id) (sym is) ∙ all.0
apart-at id (x ∷ es) (suc i) e all l is = apart-at id es i e all.1 (omega arith) is

pub others-removed : (es : List ElementValue) (i : ℕ) (e : ElementValue) → HaveDistinctIds es → i < length es
    → get_or es i e ≡ e → others_than e.id es ≡ remove es i
unfolding IsDistinct
others-removed [] i e apart l is = absurd (omega arith)
others-removed (x ∷ es) zero e apart l is =
    let own : bytes_eq e.id x.id ≡ true = ap (λ (y : ElementValue). bytes_eq e.id y.id) is ∙ of_itself e in
    rw own (ap (λ (y : ElementValue). others_than y.id es) (sym is) ∙ apart-of x.id es apart.0)
others-removed (x ∷ es) (suc i) e apart l is =
    let other : bytes_eq e.id x.id ≡ false = bytes_eq-flip x.id e.id (apart-at x.id es i e apart.0 (omega arith) is) in
    rw other (ap (λ xs. x ∷ xs) (others-removed es i e apart.1 (omega arith) is))

-- ---- ids that rise
pub others-rise : (id : List ℕ) (es : List ElementValue) → are_rising (ids_of es) ≡ true
    → are_rising (ids_of (others_than id es)) ≡ true
others-rise id es h =
    rise_between-filter (λ (e : ElementValue). e.id) (λ (e : ElementValue). not (bytes_eq id e.id)) None es h
