-- Members in the order of the bytes of their names.
use Rattle.std.proofs.Common.{◌≡◌, true, false, Some, None, ◌⊎◌, inl, inr, List, [], ◌∷◌, map, bytes_eq, if◌then◌else◌, refl, sym, ap, ◌∙◌, subst}
use Rattle.std.specs.List.{IsDistinct, AllByRecursion}
use Rattle.std.specs.List.Sorted.{IsPermutation}
use Rattle.std.proofs.lemmas.Bool.{and_parts, and_from, false≢true}
use Rattle.std.proofs.lemmas.List.Elements.{All-from_recursion, recursion_from_All}
use Rattle.std.proofs.lemmas.List.Sorted.{All-permutation, IsPermutation-refl, IsPermutation-sym, IsPermutation-cons, IsPermutation-trans, IsPermutation-middle}
use Rattle.json_text.specs.Compact.{Member as Pair}
use Rattle.json_text.proofs.CallerLemmas.{names_of}
use Rattle.frac_keys.specs.Keys.{bytes_less}
use Rattle.frac_keys.specs.Rising.{are_rising, rise_between}
use Rattle.frac_keys.proofs.CallerLemmas.{bytes_less-asym, bytes_less-trans, bytes_less-turned, bytes_less_itself}
use Rattle.elem.specs.Texts.{with_member, sorted_members}

-- Each name is less than those after it.
abbrev pub IsRising : List Pair → Type 0
IsRising [] = Unit {0}
IsRising (m ∷ ms) = AllByRecursion (λ (n : Pair). bytes_less m.0 n.0 ≡ true) ms × IsRising ms

-- ---- what holds of each
pub AllByRecursion-weaker : {X : Type 0} (P Q : X → Type 0) (xs : List X) → ((x : X) → P x → Q x) → AllByRecursion P xs
    → AllByRecursion Q xs
AllByRecursion-weaker P Q [] f h = tt
AllByRecursion-weaker P Q (x ∷ xs) f h = (f x h.0, AllByRecursion-weaker P Q xs f h.1)

pub AllByRecursion-map : {X Y : Type 0} (f : X → Y) (P : Y → Type 0) (xs : List X) → AllByRecursion P (map f xs)
    → AllByRecursion (λ x. P (f x)) xs
AllByRecursion-map f P [] h = tt
AllByRecursion-map f P (x ∷ xs) h = (h.0, AllByRecursion-map f P xs h.1)

AllByRecursion-with_member : (P : Pair → Type 0) (m : Pair) (ms : List Pair) → P m → AllByRecursion P ms
    → AllByRecursion P (with_member m ms)
AllByRecursion-with_member P m [] p h = (p, tt)
AllByRecursion-with_member P m (n ∷ ns) p h =
    elim (bytes_less n.0 m.0) as (λ b. AllByRecursion P (if b then n ∷ with_member m ns else m ∷ n ∷ ns)) [
      | true ↦ (h.0, AllByRecursion-with_member P m ns p h.1)
      | false ↦ (p, h)
    ]

pub AllByRecursion-sorted : (P : Pair → Type 0) (ms : List Pair) → AllByRecursion P ms
    → AllByRecursion P (sorted_members ms)
AllByRecursion-sorted P [] h = tt
AllByRecursion-sorted P (m ∷ ms) h =
    AllByRecursion-with_member P m (sorted_members ms) h.0 (AllByRecursion-sorted P ms h.1)

-- ---- sorted members rise
IsRising-with_member : (m : Pair) (ms : List Pair) → AllByRecursion (λ (n : Pair). bytes_eq m.0 n.0 ≡ false) ms
    → IsRising ms → IsRising (with_member m ms)
IsRising-with_member m [] apart rise = (tt, tt)
IsRising-with_member m (n ∷ ns) apart rise =
    elim (bytes_less n.0 m.0) as (λ b. bytes_less n.0 m.0 ≡ b
    → IsRising (if b then n ∷ with_member m ns else m ∷ n ∷ ns)) [
      | true ↦ λ below. (AllByRecursion-with_member _ m ns below rise.0, IsRising-with_member m ns apart.1 rise.1)
      | false ↦ λ below.
          let first = bytes_less-turned m.0 n.0 apart.0 below in
          ((first, AllByRecursion-weaker _ _ ns (λ o above. bytes_less-trans m.0 n.0 o.0 first above) rise.0), rise)
    ] refl

pub IsRising-sorted : (ms : List Pair) → IsDistinct bytes_eq (names_of ms) → IsRising (sorted_members ms)
unfolding IsDistinct
IsRising-sorted [] apart = tt
IsRising-sorted (m ∷ ms) apart =
    IsRising-with_member m (sorted_members ms)
    (AllByRecursion-sorted _ ms (AllByRecursion-map (λ (n : Pair). n.0) (λ y. bytes_eq m.0 y ≡ false) ms apart.0))
    (IsRising-sorted ms apart.1)

-- ---- sorting only moves members
IsPermutation-with_member : (m : Pair) (ms : List Pair) → IsPermutation (m ∷ ms) (with_member m ms)
IsPermutation-with_member m [] = IsPermutation-refl (m ∷ [])
IsPermutation-with_member m (n ∷ ns) =
    elim (bytes_less n.0 m.0) as (λ b. IsPermutation (m ∷ n ∷ ns) (if b then n ∷ with_member m ns else m ∷ n ∷ ns)) [
      | true ↦ IsPermutation-trans _ (n ∷ m ∷ ns) _ (IsPermutation-sym _ _ (IsPermutation-middle (n ∷ []) m ns))
          (IsPermutation-cons n _ _ (IsPermutation-with_member m ns))
      | false ↦ IsPermutation-refl (m ∷ n ∷ ns)
    ]

pub IsPermutation-sorted : (ms : List Pair) → IsPermutation ms (sorted_members ms)
IsPermutation-sorted [] = IsPermutation-refl []
IsPermutation-sorted (m ∷ ms) =
    IsPermutation-trans _ (m ∷ sorted_members ms) _ (IsPermutation-cons m _ _ (IsPermutation-sorted ms))
    (IsPermutation-with_member m (sorted_members ms))

-- ---- there is one rising list of some members
abbrev In : Pair → List Pair → Type 0
In m [] = ⊥
In m (n ∷ ns) = (m ≡ n) ⊎ In m ns

all_in : (ms : List Pair) → AllByRecursion (λ (m : Pair). In m ms) ms
all_in [] = tt
all_in (m ∷ ms) = (inl refl, AllByRecursion-weaker (λ n. In n ms) (λ n. In n (m ∷ ms)) ms (λ n h. inr h) (all_in ms))

moved_in : (ms ns : List Pair) → IsPermutation ms ns → AllByRecursion (λ (n : Pair). In n ms) ns
moved_in ms ns h =
    let P : Pair → Type 0 = λ m. In m ms in
    recursion_from_All P ns (All-permutation P ms ns h (All-from_recursion P ms (all_in ms)))

at_In : (P : Pair → Type 0) (m : Pair) (ms : List Pair) → In m ms → AllByRecursion P ms → P m
at_In P m [] i h = absurd i
at_In P m (n ∷ ns) (inl e) h = subst P (sym e) h.0
at_In P m (n ∷ ns) (inr i) h = at_In P m ns i h.1

-- what is in a rising list and after its first is in the others
later_in : (m n : Pair) (ms : List Pair) → bytes_less m.0 n.0 ≡ true → In n (m ∷ ms) → In n ms
later_in m n ms above (inl e) =
    absurd (false≢true (sym (bytes_less_itself m.0) ∙ ap (λ (o : Pair). bytes_less m.0 o.0) (sym e) ∙ above))
later_in m n ms above (inr i) = i

first_same : (m n : Pair) (ms ns : List Pair) → IsRising (m ∷ ms) → IsRising (n ∷ ns) → In m (n ∷ ns) → In n (m ∷ ms)
    → m ≡ n
first_same m n ms ns rise rise' (inl e) j = e
first_same m n ms ns rise rise' (inr i) (inl e) = sym e
first_same m n ms ns rise rise' (inr i) (inr j) =
    absurd (false≢true (sym (bytes_less-asym n.0 m.0 (at_In (λ o. bytes_less n.0 o.0 ≡ true) m ns i rise'.0))
    ∙ at_In (λ o. bytes_less m.0 o.0 ≡ true) n ms j rise.0))

others_in : (m : Pair) (ms ns : List Pair) → AllByRecursion (λ (o : Pair). bytes_less m.0 o.0 ≡ true) ms
    → AllByRecursion (λ (o : Pair). In o (m ∷ ns)) ms → AllByRecursion (λ (o : Pair). In o ns) ms
others_in m [] ns above within = tt
others_in m (o ∷ ms) ns above within = (later_in m o ns above.0 within.0, others_in m ms ns above.1 within.1)

same_in : (ms ns : List Pair) → IsRising ms → IsRising ns → AllByRecursion (λ (m : Pair). In m ns) ms
    → AllByRecursion (λ (n : Pair). In n ms) ns → ms ≡ ns
same_in [] [] rise rise' left right = refl
same_in [] (n ∷ ns) rise rise' left right = absurd right.0
same_in (m ∷ ms) [] rise rise' left right = absurd left.0
same_in (m ∷ ms) (n ∷ ns) rise rise' left right =
    let first = first_same m n ms ns rise rise' left.0 right.0 in
    let above = subst (λ o. AllByRecursion (λ (p : Pair). bytes_less o.0 p.0 ≡ true) ns) (sym first) rise'.0 in
    let others = same_in ms ns rise.1 rise'.1
    (others_in m ms ns rise.0 (subst (λ o. AllByRecursion (λ (p : Pair). In p (o ∷ ns)) ms) (sym first) left.1))
    (others_in m ns ms above right.1) in
    λ i. first i ∷ others i

pub same_rising : (ms ns : List Pair) → IsRising ms → IsRising ns → IsPermutation ms ns → ms ≡ ns
same_rising ms ns rise rise' moved =
    same_in ms ns rise rise' (moved_in ns ms (IsPermutation-sym _ _ moved)) (moved_in ms ns moved)

-- ---- members by their names alone
rises : (m : Pair) (ms : List Pair) → AllByRecursion (λ (n : Pair). bytes_less m.0 n.0 ≡ true) ms → IsRising ms
    → rise_between (Some m.0) None (names_of ms) ≡ true
rises m [] above rise = refl
rises m (n ∷ ns) above rise = and_from _ _ above.0 (rises n ns rise.0 rise.1)

pub are_rising-from : (ms : List Pair) → IsRising ms → are_rising (names_of ms) ≡ true
are_rising-from [] rise = refl
are_rising-from (m ∷ ms) rise = rises m ms rise.0 rise.1

risen : (m : Pair) (ms : List Pair) → rise_between (Some m.0) None (names_of ms) ≡ true
    → AllByRecursion (λ (n : Pair). bytes_less m.0 n.0 ≡ true) ms × IsRising ms
risen m [] h = (tt, tt)
risen m (n ∷ ns) h =
    let both = and_parts _ _ h in
    let others = risen n ns both.1 in
    ((both.0, AllByRecursion-weaker _ _ ns (λ o above. bytes_less-trans m.0 n.0 o.0 both.0 above) others.0), others)

pub IsRising-from : (ms : List Pair) → are_rising (names_of ms) ≡ true → IsRising ms
IsRising-from [] h = tt
IsRising-from (m ∷ ms) h = risen m ms h
