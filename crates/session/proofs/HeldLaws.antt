-- Held ids with one more, and without one: they rise, and hold what they should, so they are those that a replica
-- holds.
use Rattle.std.proofs.Common.{◌≡◌, ℕ, Bool, true, false, not, ◌&&◌, ◌||◌, List, [], ◌∷◌, if◌then◌else◌, bytes_eq, Less, is_lt, nat_cmp, refl, sym, ap, ◌∙◌, subst, arith}
use Rattle.std.specs.Cmp.Lexicographic.{slice_cmp}
use Rattle.std.specs.List.{AllByRecursion}
use Rattle.std.specs.List.Sorted.{IsStrictlySortedBy}
use Rattle.std.proofs.lemmas.List.Kept.{IsStrictlySortedBy-filter}
use Rattle.std.proofs.lemmas.Map.Views.{any-filter_same}
use Rattle.json_text.proofs.CallerLemmas.{bytes_eq-true}
use Rattle.frac_keys.specs.Keys.{bytes_less}
use Rattle.frac_keys.proofs.CallerLemmas.{bytes_less-trans, bytes_less-turned}
use Rattle.elem.proofs.CallerLemmas.{AllByRecursion-weaker}
use Rattle.delta.proofs.CallerLemmas.{each-put}
use Rattle.elem_store.specs.Updates.{is_among}
use Rattle.reconcile.specs.Ids.{AreStrictlySorted, HasAdded, HasDropped}
use Rattle.reconcile.proofs.CallerLemmas.{held-unique}
use Rattle.session.specs.Worlds.{with_id, without_id}

abbrev itself : List ℕ → List ℕ
itself id = id

abbrev IsAbove : List ℕ → List ℕ → Type 0
IsAbove id other = slice_cmp nat_cmp id other ≡ Less

above : (id other : List ℕ) → bytes_less id other ≡ true → IsAbove id other
above id other h = grind arith

above-trans : (id other last : List ℕ) → IsAbove id other → IsAbove other last → IsAbove id last
above-trans id other last h k = above id last (bytes_less-trans id other last (ap is_lt h) (ap is_lt k))

-- ---- one more
rising-more : (id : List ℕ) (ids : List (List ℕ)) → AreStrictlySorted ids → AreStrictlySorted (with_id id ids)
unfolding IsStrictlySortedBy
rising-more id [] rise = (tt, tt)
rising-more id (other ∷ ids) rise =
    elim (bytes_less other id) as (λ b. bytes_less other id ≡ b
    → AreStrictlySorted (if b then other ∷ with_id id ids else (if bytes_eq id other then id ∷ ids else id ∷ other
    ∷ ids))) [
      | true ↦ λ less. (each-put itself (IsAbove other) id ids (above other id less) rise.0, rising-more id ids rise.1)
      | false ↦ λ more.
          elim (bytes_eq id other) as (λ b. bytes_eq id other ≡ b
          → AreStrictlySorted (if b then id ∷ ids else id ∷ other ∷ ids)) [
            | true ↦ λ same. (
              subst (λ k. AllByRecursion (IsAbove k) ids) (sym (bytes_eq-true id other same)) rise.0,
              rise.1,
            )
            | false ↦ λ apart.
                let below = above id other (bytes_less-turned id other apart more) in (
                  (
                    below,
                    AllByRecursion-weaker (IsAbove other) (IsAbove id) ids
                        (λ last h. above-trans id other last below h) rise.0,
                  ),
                  rise,
                )
          ] refl
    ] refl

or-turned : (a b c : Bool) → (a || (b || c)) ≡ (b || (a || c))
or-turned true true c = refl
or-turned true false c = refl
or-turned false b c = refl

or-same : (a b c : Bool) → a ≡ b → (a || c) ≡ (a || (b || c))
or-same true b c e = refl
or-same false true c e = ap (λ d. d || c) e
or-same false false c e = refl

held-more : (id : List ℕ) (ids : List (List ℕ)) (q : List ℕ)
    → is_among (with_id id ids) q ≡ (bytes_eq q id || is_among ids q)
held-more id [] q = refl
held-more id (other ∷ ids) q =
    elim (bytes_less other id) as (λ b. is_among (if b then other
    ∷ with_id id ids else (if bytes_eq id other then id ∷ ids else id ∷ other ∷ ids)) q
    ≡ (bytes_eq q id || (bytes_eq q other || is_among ids q))) [
      | true ↦ ap (λ b. bytes_eq q other || b) (held-more id ids q)
          ∙ or-turned (bytes_eq q other) (bytes_eq q id) (is_among ids q)
      | false ↦
          elim (bytes_eq id other) as (λ b. bytes_eq id other ≡ b
          → is_among (if b then id ∷ ids else id ∷ other ∷ ids) q
          ≡ (bytes_eq q id || (bytes_eq q other || is_among ids q))) [
            | true ↦ λ same. or-same (bytes_eq q id) (bytes_eq q other) (is_among ids q)
                (ap (bytes_eq q) (bytes_eq-true id other same))
            | false ↦ λ apart. refl
          ] refl
    ]

pub added-is : (old : List (List ℕ)) (id : List ℕ) (new : List (List ℕ)) → AreStrictlySorted old → HasAdded old id new
    → new ≡ with_id id old
added-is old id new rise added = held-unique new (with_id id old) added.ordered (rising-more id old rise)
    (λ q. added.each q ∙ sym (held-more id old q))

-- ---- one fewer
held-fewer : (id : List ℕ) (ids : List (List ℕ)) (q : List ℕ)
    → is_among (without_id id ids) q ≡ (not (bytes_eq q id) && is_among ids q)
held-fewer id ids q =
    any-filter_same (bytes_eq q) (λ other. not (bytes_eq other id)) (not (bytes_eq q id))
    (λ other same. ap (λ k. not (bytes_eq k id)) (sym (bytes_eq-true q other same))) ids

pub dropped-is : (old : List (List ℕ)) (id : List ℕ) (new : List (List ℕ)) → AreStrictlySorted old
    → HasDropped old id new → new ≡ without_id id old
dropped-is old id new rise dropped =
    held-unique new (without_id id old) dropped.ordered
    (IsStrictlySortedBy-filter (slice_cmp nat_cmp) (λ other. not (bytes_eq other id)) old rise)
    (λ q. dropped.each q ∙ sym (held-fewer id old q))
