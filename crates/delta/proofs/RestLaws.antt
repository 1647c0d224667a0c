-- Members in the order of their names: where a name belongs, and what a change of one member makes of them.
use Rattle.std.proofs.Common.{◌≡◌, ℕ, zero, suc, ◌+◌, ◌<◌, ◌≤◌, Bool, true, false, List, [], ◌∷◌, ◌++◌, length, get_or, take, drop, Option, Some, None, All, slice_get, if◌then◌else◌, bytes_eq, inl, inr, refl, sym, ap, ◌∙◌, subst, length-take, length-drop, arith}
use Rattle.std.specs.List.{AllByRecursion, IsDistinct, list_any}
use Rattle.std.specs.Option.{option_map_or, option_and_then}
use Rattle.std.specs.List.Sorted.{IsPartitionedBy, IsPartitionPoint}
use Rattle.std.proofs.lemmas.Bool.{cases_Bool, false≢true, or_parts}
use Rattle.std.proofs.lemmas.List.{get_or-take, get_or-drop}
use Rattle.json_text.specs.Members.{pairs}
use Rattle.json_text.specs.Compact.{Member as Pair}
use Rattle.json_text.specs.declared.text.Member.{Member}
use Rattle.json_text.proofs.CallerLemmas.{bytes_eq-true, bytes_eq-same, bytes_eq-apart}
use Rattle.scene_json.proofs.CallerLemmas.{names-pairs, pairs-each}
use Rattle.frac_keys.specs.Keys.{bytes_less}
use Rattle.frac_keys.specs.Rising.{are_rising}
use Rattle.frac_keys.proofs.CallerLemmas.{bytes_less-trans, bytes_less_itself, bytes_less-asym, bytes_less-turned}
use Rattle.elem.specs.Facts.{names}
use Rattle.elem.proofs.CallerLemmas.{IsRising, IsRising-from, are_rising-from, AllByRecursion-weaker}
use Rattle.elem.specs.Texts.{with_member, sorted_members}
use Rattle.delta.specs.Headers.{value_named}
use Rattle.delta.specs.Rest.{value_if, made, without_first, with_value}

-- names that rise, by recursion
pub risen : (ms : List Member) → are_rising (names ms) ≡ true → IsRising (pairs ms)
risen ms h = IsRising-from (pairs ms) (ap are_rising (names-pairs ms) ∙ h)

pub rises : (ms : List Member) → IsRising (pairs ms) → are_rising (names ms) ≡ true
rises ms h = sym (ap are_rising (names-pairs ms)) ∙ are_rising-from (pairs ms) h

each_at : (P : Pair → Type 0) (ms : List Member) (j : ℕ) (d : Member) → AllByRecursion P (pairs ms) → j < length ms
    → P ((get_or ms j d).name, (get_or ms j d).value)
each_at P [] j d h l = absurd (omega arith)
each_at P (m ∷ ms) zero d h l = h.0
each_at P (m ∷ ms) (suc j) d h l = each_at P ms j d h.1 (omega arith)

-- the names before a lesser name are lesser
pub partitioned : (name : List ℕ) (ms : List Member) → IsRising (pairs ms)
    → IsPartitionedBy (λ (m : Member). bytes_less m.name name) ms
partitioned name [] rise i j d le l h = absurd (omega arith)
partitioned name (m ∷ ms) rise zero zero d le l h = h
partitioned name (m ∷ ms) rise (suc i) zero d le l h = absurd (omega arith)
partitioned name (m ∷ ms) rise zero (suc j) d le l h =
    bytes_less-trans m.name (get_or ms j d).name name (each_at (λ n. bytes_less m.name n.0 ≡ true) ms j d rise.0
    (omega arith)) h
partitioned name (m ∷ ms) rise (suc i) (suc j) d le l h = partitioned name ms rise.1 i j d (omega arith) (omega arith) h

-- what holds before a place and from it on
module _ {X : Type 0} (P Q : X → Type 0) (xs : List X) (i : ℕ) (le : i ≤ length xs) (parts : IsPartitionPoint P Q xs i)
  where
    pub All-before : All P (take i xs)
    All-before k d l =
        let m : k < i = omega (arith, length-take i xs) in
        rw (get_or-take i xs k d m) (parts.0 k d (omega arith) m)

    pub All-behind : All Q (drop i xs)
    All-behind k d l =
        let m : i + k < length xs = omega (arith, length-drop i xs) in
        rw (get_or-drop i xs k d) (parts.1 (i + k) d (omega arith) m)

-- the change of a member is made where its name belongs
pub with_value-at : (name : List ℕ) (value : Option (List ℕ)) (ms : List Member) (i : ℕ)
    → All (λ (m : Member). bytes_less m.name name ≡ true) (take i ms)
    → All (λ (m : Member). bytes_less m.name name ≡ false) (drop i ms)
    → with_value name value ms ≡ take i ms ++ (made name value ++ without_first name (drop i ms))
with_value-at name value [] i before behind = ap (λ xs. xs) (nothing i)
  where
    nil : (xs : List Member) → xs ≡ xs ++ []
    nil [] = refl
    nil (x ∷ xs) = ap (λ ys. x ∷ ys) (nil xs)

    nothing : (i : ℕ) → made name value ≡ take i [] ++ (made name value ++ without_first name (drop i []))
    nothing zero = nil (made name value)
    nothing (suc i) = nil (made name value)
with_value-at name value (m ∷ ms) zero before behind =
    ap (λ b. if b then m ∷ with_value name value ms else made name value ++ without_first name (m ∷ ms))
    (behind 0 m (omega arith))
with_value-at name value (m ∷ ms) (suc i) before behind =
    ap (λ b. if b then m ∷ with_value name value ms else made name value ++ without_first name (m ∷ ms))
    (before 0 m (omega arith))
    ∙ ap (λ xs. m ∷ xs) (with_value-at name value ms i (λ k d l. before (suc k) d (omega arith)) behind)

-- the value of a name among members with greater names
none_below : (name : List ℕ) (ms : List Member) → AllByRecursion (λ (n : Pair). bytes_less name n.0 ≡ true) (pairs ms)
    → value_named name ms ≡ None
none_below name [] above = refl
none_below name (m ∷ ms) above =
    ap (λ b. if b then Some m.value else value_named name ms)
    (bytes_eq-apart name m.name (λ e. false≢true (sym (bytes_less_itself name) ∙ ap (bytes_less name) e ∙ above.0)))
    ∙ none_below name ms above.1

-- ---- the member at the place where a name belongs
abbrev pub has_name : List ℕ → List Member → ℕ → Bool
has_name name ms i = option_map_or (λ (m : Member). bytes_eq name m.name) (slice_get ms i) false

pub without-named : (name : List ℕ) (ms : List Member) (i : ℕ) → has_name name ms i ≡ true
    → without_first name (drop i ms) ≡ drop (suc i) ms
without-named name [] i h = absurd (false≢true h)
without-named name (m ∷ ms) zero h = ap (λ b. if b then ms else m ∷ ms) h
without-named name (m ∷ ms) (suc i) h = without-named name ms i h

pub without-other : (name : List ℕ) (ms : List Member) (i : ℕ) → has_name name ms i ≡ false
    → without_first name (drop i ms) ≡ drop i ms
without-other name [] zero h = refl
without-other name [] (suc i) h = refl
without-other name (m ∷ ms) zero h = ap (λ b. if b then ms else m ∷ ms) h
without-other name (m ∷ ms) (suc i) h = without-other name ms i h

pub value-at : (name : List ℕ) (ms : List Member) (i : ℕ) → IsRising (pairs ms)
    → All (λ (m : Member). bytes_less m.name name ≡ true) (take i ms)
    → All (λ (m : Member). bytes_less m.name name ≡ false) (drop i ms)
    → option_and_then (value_if name) (slice_get ms i) ≡ value_named name ms
value-at name [] i rise before behind = refl
value-at name (m ∷ ms) zero rise before behind =
    elim (cases_Bool (bytes_eq name m.name)) [
      | inl t ↦ ap (λ b. if b then Some m.value else None) t
          ∙ sym (ap (λ b. if b then Some m.value else value_named name ms) t)
      | inr f ↦
          let above = bytes_less-turned name m.name f (behind 0 m (omega arith)) in
          ap (λ b. if b then Some m.value else None) f
          ∙ sym (none_below name (m ∷ ms) (
            above,
            AllByRecursion-weaker _ _ (pairs ms) (λ n l. bytes_less-trans name m.name n.0 above l) rise.0,
          ))
    ]
value-at name (m ∷ ms) (suc i) rise before behind =
    value-at name ms i rise.1 (λ k d l. before (suc k) d (omega arith)) behind
    ∙ sym (ap (λ b. if b then Some m.value else value_named name ms)
    (bytes_eq-apart name m.name (λ e. false≢true (sym (bytes_less_itself name)
    ∙ sym (ap (λ n. bytes_less n name) (sym e)) ∙ before 0 m (omega arith)))))

-- ---- what a change of one member makes of all
pub each-with_value : (P : Member → Type 0) (name : List ℕ) (value : Option (List ℕ)) (ms : List Member)
    → AllByRecursion P (made name value) → AllByRecursion P ms → AllByRecursion P (with_value name value ms)
each-with_value P name value [] new all = new
each-with_value P name value (m ∷ ms) new all =
    elim (bytes_less m.name name) as (λ b. AllByRecursion P (if b then m ∷ with_value name value ms else made name value
    ++ without_first name (m ∷ ms))) [
      | true ↦ (all.0, each-with_value P name value ms new all.1)
      | false ↦ joined value new (without_first name (m ∷ ms))
          (elim (bytes_eq name m.name) as (λ b. AllByRecursion P (if b then ms else m ∷ ms)) [
            | true ↦ all.1
            | false ↦ all
          ])
    ]
  where
    joined : (value : Option (List ℕ)) → AllByRecursion P (made name value) → (xs : List Member) → AllByRecursion P xs
        → AllByRecursion P (made name value ++ xs)
    joined None new xs h = h
    joined (Some v) new xs h = (new.0, h)

each-pairs : (P : Pair → Type 0) (ms : List Member) → AllByRecursion P (pairs ms)
    → AllByRecursion (λ (m : Member). P (m.name, m.value)) ms
each-pairs P [] h = tt
each-pairs P (m ∷ ms) h = (h.0, each-pairs P ms h.1)

each-made : (P : Member → Type 0) (name : List ℕ) (value : Option (List ℕ))
    → ((v : List ℕ) → P (record { name = name; value = v })) → AllByRecursion P (made name value)
each-made P name None h = tt
each-made P name (Some v) h = (h v, tt)

pub rising-with_value : (name : List ℕ) (value : Option (List ℕ)) (ms : List Member) → IsRising (pairs ms)
    → IsRising (pairs (with_value name value ms))
rising-with_value name None [] rise = tt
rising-with_value name (Some v) [] rise = (tt, tt)
rising-with_value name value (m ∷ ms) rise =
    elim (bytes_less m.name name) as (λ b. bytes_less m.name name ≡ b
    → IsRising (pairs (if b then m ∷ with_value name value ms else made name value ++ without_first name (m ∷ ms)))) [
      | true ↦ λ less.
          let P : Pair → Type 0 = λ n. bytes_less m.name n.0 ≡ true in (
            pairs-each P (with_value name value ms)
                (each-with_value (λ n. P (n.name, n.value)) name value ms
                (each-made (λ n. P (n.name, n.value)) name value (λ v. less)) (each-pairs P ms rise.0)),
            rising-with_value name value ms rise.1,
          )
      | false ↦ λ more.
          elim (bytes_eq name m.name) as (λ b. bytes_eq name m.name ≡ b
          → IsRising (pairs (made name value ++ (if b then ms else m ∷ ms)))) [
            | true ↦ λ same. before value ms (subst (λ n. AllByRecursion (λ (o : Pair). bytes_less n o.0 ≡ true)
                (pairs ms)) (sym (bytes_eq-true name m.name same)) rise.0) rise.1
            | false ↦ λ other.
                let above = bytes_less-turned name m.name other more in
                before value (m ∷ ms) (
                  above,
                  AllByRecursion-weaker _ _ (pairs ms)
                      (λ n l. bytes_less-trans name m.name n.0 above l) rise.0,
                ) rise
          ] refl
    ] refl
  where
    before : (value : Option (List ℕ)) (xs : List Member)
        → AllByRecursion (λ (o : Pair). bytes_less name o.0 ≡ true) (pairs xs) → IsRising (pairs xs)
        → IsRising (pairs (made name value ++ xs))
    before None xs above rise = rise
    before (Some v) xs above rise = (above, rise)

value-made : (n name : List ℕ) (value : Option (List ℕ)) (xs : List Member) → value_named name xs ≡ None
    → value_named n (made name value ++ xs) ≡ (if bytes_eq n name then value else value_named n xs)
value-made n name (Some v) xs none = refl
value-made n name None xs none =
    elim (cases_Bool (bytes_eq n name)) [
      | inl t ↦ ap (λ m. value_named m xs) (bytes_eq-true n name t) ∙ none
          ∙ sym (ap (λ b. if b then None else value_named n xs) t)
      | inr f ↦ sym (ap (λ b. if b then None else value_named n xs) f)
    ]

-- the member of the name has the value, and the others stay
pub named-with_value : (n name : List ℕ) (value : Option (List ℕ)) (ms : List Member) → IsRising (pairs ms)
    → value_named n (with_value name value ms) ≡ (if bytes_eq n name then value else value_named n ms)
named-with_value n name value [] rise = ap (value_named n) (nil (made name value)) ∙ value-made n name value [] refl
  where
    nil : (xs : List Member) → xs ≡ xs ++ []
    nil [] = refl
    nil (x ∷ xs) = ap (λ ys. x ∷ ys) (nil xs)
named-with_value n name value (m ∷ ms) rise =
    elim (bytes_less m.name name) as (λ b. bytes_less m.name name ≡ b
    → value_named n (if b then m ∷ with_value name value ms else made name value ++ without_first name (m ∷ ms))
    ≡ (if bytes_eq n name then value else value_named n (m ∷ ms))) [
      | true ↦ λ less.
          ap (λ v. if bytes_eq n m.name then Some m.value else v) (named-with_value n name value ms rise.1)
          ∙ swapped (bytes_eq n m.name) (bytes_eq n name)
          (λ t. bytes_eq-apart n name (λ e. false≢true (sym (bytes_less_itself name)
          ∙ ap (λ k. bytes_less k name) (sym e ∙ bytes_eq-true n m.name t) ∙ less)))
      | false ↦ λ more.
          elim (bytes_eq name m.name) as (λ b. bytes_eq name m.name ≡ b
          → value_named n (made name value ++ (if b then ms else m ∷ ms))
          ≡ (if bytes_eq n name then value else value_named n (m ∷ ms))) [
            | true ↦ λ same.
                value-made n name value ms (ap (λ k. value_named k ms) (bytes_eq-true name m.name same)
                ∙ none_below m.name ms rise.0)
                ∙ (elim (cases_Bool (bytes_eq n name)) [
                  | inl t ↦ ap (λ b. if b then value else value_named n ms) t
                      ∙ sym (ap (λ b. if b then value else value_named n (m ∷ ms)) t)
                  | inr f ↦ ap (λ b. if bytes_eq n name then value else (if b then Some m.value else value_named n ms))
                      (sym (ap (bytes_eq n) (sym (bytes_eq-true name m.name same)) ∙ f))
                ])
            | false ↦ λ other.
                let above = bytes_less-turned name m.name other more in
                value-made n name value (m ∷ ms)
                (none_below name (m ∷ ms) (
                  above,
                  AllByRecursion-weaker _ _ (pairs ms) (λ o l. bytes_less-trans name m.name o.0 above l) rise.0,
                ))
          ] refl
    ] refl
  where
    swapped : (b c : Bool) → (b ≡ true → c ≡ false)
        → (if b then Some m.value else (if c then value else value_named n ms))
        ≡ (if c then value else (if b then Some m.value else value_named n ms))
    swapped true true h = absurd (false≢true (sym (h refl)))
    swapped true false h = refl
    swapped false c h = refl

-- ---- names

apart : (name : List ℕ) (ms : List Member) → AllByRecursion (λ (n : Pair). bytes_less name n.0 ≡ true) (pairs ms)
    → AllByRecursion (λ n. bytes_eq name n ≡ false) (names ms)
apart name [] h = tt
apart name (m ∷ ms) h = (
  bytes_eq-apart name m.name (λ e. false≢true (sym (bytes_less_itself name) ∙ ap (bytes_less name) e ∙ h.0)),
  apart name ms h.1,
)

-- rising names are distinct
pub IsDistinct-rising : (ms : List Member) → IsRising (pairs ms) → IsDistinct bytes_eq (names ms)
unfolding IsDistinct
IsDistinct-rising [] rise = tt
IsDistinct-rising (m ∷ ms) rise = (apart m.name ms rise.0, IsDistinct-rising ms rise.1)

-- ---- sorted members
sorted-rising : (ms : List Pair) → IsRising ms → sorted_members ms ≡ ms
sorted-rising [] rise = refl
sorted-rising (m ∷ ms) rise = ap (with_member m) (sorted-rising ms rise.1) ∙ first ms rise.0
  where
    first : (ns : List Pair) → AllByRecursion (λ (n : Pair). bytes_less m.0 n.0 ≡ true) ns → with_member m ns ≡ m ∷ ns
    first [] above = refl
    first (n ∷ ns) above = ap (λ b. if b then n ∷ with_member m ns else m ∷ n ∷ ns) (bytes_less-asym m.0 n.0 above.0)

with_member-with_value : (name value : List ℕ) (ms : List Member) → list_any (bytes_eq name) (names ms) ≡ false
    → with_member (name, value) (pairs ms) ≡ pairs (with_value name (Some value) ms)
with_member-with_value name value [] free = refl
with_member-with_value name value (m ∷ ms) free =
    let parts = or_parts (bytes_eq name m.name) (list_any (bytes_eq name) (names ms)) free in
    elim (bytes_less m.name name) as (λ b. (if b then (m.name, m.value)
    ∷ with_member (name, value) (pairs ms) else (name, value) ∷ (m.name, m.value) ∷ pairs ms)
    ≡ pairs (if b then m ∷ with_value name (Some value) ms else made name (Some value)
    ++ without_first name (m ∷ ms))) [
      | true ↦ ap (λ (xs : List Pair). (m.name, m.value) ∷ xs) (with_member-with_value name value ms parts.1)
      | false ↦ ap (λ b. (name, value) ∷ pairs (if b then ms else m ∷ ms)) (sym parts.0)
    ]

-- a member more among sorted ones
pub sorted-with_value : (name value : List ℕ) (ms : List Member) → IsRising (pairs ms)
    → list_any (bytes_eq name) (names ms) ≡ false → sorted_members ((name, value) ∷ pairs ms)
    ≡ pairs (with_value name (Some value) ms)
sorted-with_value name value ms rise free =
    ap (with_member (name, value)) (sorted-rising (pairs ms) rise) ∙ with_member-with_value name value ms free

-- a member that was put can be taken away again
pub with_value-back : (name value : List ℕ) (ms : List Member) → list_any (bytes_eq name) (names ms) ≡ false
    → with_value name None (with_value name (Some value) ms) ≡ ms
with_value-back name value [] free = rw (bytes_less_itself name, bytes_eq-same name) refl
with_value-back name value (m ∷ ms) free =
    let parts = or_parts (bytes_eq name m.name) (list_any (bytes_eq name) (names ms)) free in
    let new : Member = record { name = name; value = value } in
    elim (bytes_less m.name name) as (λ b. bytes_less m.name name ≡ b
    → with_value name None (if b then m ∷ with_value name (Some value) ms else made name (Some value)
    ++ without_first name (m ∷ ms)) ≡ m ∷ ms) [
      | true ↦ λ less.
          ap (λ b. if b then m ∷ with_value name None (with_value name (Some value) ms) else without_first name
          (m ∷ with_value name (Some value) ms)) less
          ∙ ap (λ xs. m ∷ xs) (with_value-back name value ms parts.1)
      | false ↦ λ more.
          ap (λ b. with_value name None (new ∷ (if b then ms else m ∷ ms))) parts.0
          ∙ ap (λ b. if b then new ∷ with_value name None (m ∷ ms) else without_first name (new ∷ m ∷ ms))
          (bytes_less_itself name)
          ∙ ap (λ b. if b then m ∷ ms else new ∷ m ∷ ms) (bytes_eq-same name)
    ] refl

-- members whose names rise are told by the values of their names
pub same_values : (ms ns : List Member) → IsRising (pairs ms) → IsRising (pairs ns)
    → ((n : List ℕ) → value_named n ms ≡ value_named n ns) → ms ≡ ns
same_values [] [] rise rise' h = refl
same_values [] (n ∷ ns) rise rise' h =
    absurd (none-some (h n.name ∙ ap (λ b. if b then Some n.value else value_named n.name ns) (bytes_eq-same n.name)))
  where
    none-some : {v : List ℕ} → None ≡ Some v → ⊥
    none-some e = cc
same_values (m ∷ ms) [] rise rise' h =
    absurd (some-none (sym (ap (λ b. if b then Some m.value else value_named m.name ms) (bytes_eq-same m.name))
    ∙ h m.name))
  where
    some-none : {v : List ℕ} → Some v ≡ None → ⊥
    some-none e = cc
same_values (m ∷ ms) (n ∷ ns) rise rise' h =
    elim (cases_Bool (bytes_eq m.name n.name)) [
      | inl t ↦
          let name = bytes_eq-true m.name n.name t in
          let value : m.value ≡ n.value =
          some-same (sym (here m ms) ∙ h m.name ∙ ap (λ b. if b then Some n.value else value_named m.name ns) t) in
          let rest = same_values ms ns rise.1 rise'.1 (λ k. tails name k) in
          λ i. record { name = name i; value = value i } ∷ rest i
      | inr f ↦ elim (cases_Bool (bytes_less m.name n.name)) [
        | inl less ↦ absurd (some-none (sym (here m ms) ∙ h m.name
            ∙ none_below m.name (n ∷ ns) (
              less,
              AllByRecursion-weaker _ _ (pairs ns) (λ o l. bytes_less-trans m.name n.name o.0 less l) rise'.0,
            )))
        | inr more ↦
            let less = bytes_less-turned n.name m.name
            (bytes_eq-apart n.name m.name (λ e. false≢true (sym f ∙ ap (bytes_eq m.name) e ∙ bytes_eq-same m.name)))
            more in
            absurd (some-none (sym (here n ns) ∙ sym (h n.name)
            ∙ none_below n.name (m ∷ ms) (
              less,
              AllByRecursion-weaker _ _ (pairs ms) (λ o l. bytes_less-trans n.name m.name o.0 less l) rise.0,
            )))
      ]
    ]
  where
    some-none : {v : List ℕ} → Some v ≡ None → ⊥
    some-none e = cc

    some-same : {v w : List ℕ} → Some v ≡ Some w → v ≡ w
    some-same e = cc

    here : (o : Member) (os : List Member) → value_named o.name (o ∷ os) ≡ Some o.value
    here o os = ap (λ b. if b then Some o.value else value_named o.name os) (bytes_eq-same o.name)

    tails : m.name ≡ n.name → (k : List ℕ) → value_named k ms ≡ value_named k ns
    tails name k =
        elim (cases_Bool (bytes_eq k m.name)) [
          | inl t ↦
              let same = bytes_eq-true k m.name t in
              ap (λ k. value_named k ms) same ∙ none_below m.name ms rise.0
              ∙ sym (ap (λ k. value_named k ns) (same ∙ name) ∙ none_below n.name ns rise'.0)
          | inr f ↦
              sym (ap (λ b. if b then Some m.value else value_named k ms) f) ∙ h k
              ∙ ap (λ b. if b then Some n.value else value_named k ns) (sym (ap (bytes_eq k) name) ∙ f)
        ]
