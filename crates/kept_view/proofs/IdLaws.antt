-- A list of ids and the set of them, one id more each time.
use Rattle.std.proofs.Common.{◌≡◌, ℕ, ◌+◌, ◌<◌, Bool, true, false, not, ◌&&◌, ◌||◌, List, [], ◌∷◌, ◌++◌, length, take, get_or, bytes_eq, refl, sym, ap, ◌∙◌}
use Rattle.std.specs.BTreeSet.{BTreeSet}
use Rattle.std.proofs.lemmas.Bool.{both_ways, false_from_ne_true}
use Rattle.std.proofs.lemmas.List.{take_more}
use Rattle.std.proofs.lemmas.List.Folds.{list_any-append}
use Rattle.std.proofs.lemmas.Slice.Eq.{bytes_eq-Decides}
use Rattle.links.specs.Tables.{has_seen}
use Rattle.elem_store.specs.Updates.{is_among}

or-none : (a : Bool) → (a || false) ≡ a
or-none true = refl
or-none false = refl

or-turned : (a b : Bool) → (a || b) ≡ (b || a)
or-turned true true = refl
or-turned true false = refl
or-turned false true = refl
or-turned false false = refl

pub among-push : (ids : List (List ℕ)) (id other : List ℕ)
    → is_among (ids ++ id ∷ []) other ≡ (bytes_eq other id || is_among ids other)
among-push ids id other =
    list_any-append (bytes_eq other) ids (id ∷ []) ∙ ap (λ b. is_among ids other || b) (or-none (bytes_eq other id))
    ∙ or-turned (is_among ids other) (bytes_eq other id)

pub same-push : (ids : List (List ℕ)) (seen new : BTreeSet (List ℕ)) (id : List ℕ)
    → ((other : List ℕ) → has_seen seen other ≡ is_among ids other)
    → ((other : List ℕ) → has_seen new other ≡ (bytes_eq other id || has_seen seen other))
    → (other : List ℕ) → has_seen new other ≡ is_among (ids ++ id ∷ []) other
same-push ids seen new id same see other =
    see other ∙ ap (λ b. bytes_eq other id || b) (same other) ∙ sym (among-push ids id other)

-- an id that is there adds nothing
pub among-stays : (ids : List (List ℕ)) (id : List ℕ) → is_among ids id ≡ true → (other : List ℕ)
    → is_among ids other ≡ (bytes_eq other id || is_among ids other)
among-stays ids id known other = by (bytes_eq other id) refl where
  by : (b : Bool) → bytes_eq other id ≡ b → is_among ids other ≡ (b || is_among ids other)
  by true same = ap (is_among ids) ((bytes_eq-Decides other id).0 same) ∙ known
  by false other' = refl

-- all of some ids, one more
pub among-all : (ids : List (List ℕ)) (i : ℕ) (id : List ℕ) → i < length ids → id ≡ get_or ids i id
    → (old mid new : List (List ℕ))
    → ((x : List ℕ) → is_among mid x ≡ (is_among (take i ids) x || is_among old x))
    → ((x : List ℕ) → is_among new x ≡ (bytes_eq x id || is_among mid x))
    → (x : List ℕ) → is_among new x ≡ (is_among (take (i + 1) ids) x || is_among old x)
among-all ids i id within there old mid new before step x =
    step x ∙ ap (λ b. bytes_eq x id || b) (before x) ∙ by (bytes_eq x id) (is_among (take i ids) x) (is_among old x)
    ∙ sym (ap (λ b. b || is_among old x) (ap (λ xs. is_among xs x) (take_more ids i id within
    ∙ ap (λ y. take i ids ++ y ∷ []) (sym there)) ∙ among-push (take i ids) id x))
  where
    by : (a b c : Bool) → (a || (b || c)) ≡ ((a || b) || c)
    by true b c = refl
    by false b c = refl

-- some ids but for one, one more each time
pub others-of : (ids : List (List ℕ)) (i : ℕ) (other : List ℕ) → i < length ids → other ≡ get_or ids i other
    → (x : List ℕ) → is_among (take (i + 1) ids) x ≡ (bytes_eq x other || is_among (take i ids) x)
others-of ids i other within there x =
    ap (λ xs. is_among xs x) (take_more ids i other within ∙ ap (λ y. take i ids ++ y ∷ []) (sym there))
    ∙ among-push (take i ids) other x

pub others-none : (id : List ℕ) (ids : List (List ℕ)) (x : List ℕ)
    → is_among [] x ≡ (not (bytes_eq x id) && is_among (take 0 ids) x)
others-none id ids x = by (not (bytes_eq x id)) where
  by : (b : Bool) → false ≡ (b && false)
  by true = refl
  by false = refl

module _ (id : List ℕ) (ids : List (List ℕ)) (i : ℕ) (other : List ℕ) (within : i < length ids) (there : other
    ≡ get_or ids i other) (old : List (List ℕ))
    (so_far : (x : List ℕ) → is_among old x ≡ (not (bytes_eq x id) && is_among (take i ids) x)) where
  pub others-add : bytes_eq id other ≡ false → (new : List (List ℕ))
      → ((x : List ℕ) → is_among new x ≡ (bytes_eq x other || is_among old x))
      → (x : List ℕ) → is_among new x ≡ (not (bytes_eq x id) && is_among (take (i + 1) ids) x)
  others-add off new step x = step x ∙ ap (λ b. bytes_eq x other || b) (so_far x) ∙ by (bytes_eq x other) refl
      ∙ sym (ap (λ b. not (bytes_eq x id) && b) (others-of ids i other within there x)) where
        apart : bytes_eq x other ≡ true → bytes_eq x id ≡ false
        apart same = false_from_ne_true (bytes_eq x id)
            (λ is. both_ways (bytes_eq id other) off ((bytes_eq-Decides id other).1 (sym ((bytes_eq-Decides x id).0 is)
            ∙ (bytes_eq-Decides x other).0 same)))

        by : (b : Bool) → bytes_eq x other ≡ b → (b || (not (bytes_eq x id) && is_among (take i ids) x))
            ≡ (not (bytes_eq x id) && (b || is_among (take i ids) x))
        by true same = sym (ap (λ b. not b && true) (apart same))
        by false other' = refl

  pub others-skip : bytes_eq id other ≡ true → (x : List ℕ)
      → is_among old x ≡ (not (bytes_eq x id) && is_among (take (i + 1) ids) x)
  others-skip own x = so_far x ∙ by (bytes_eq x other) refl
      ∙ sym (ap (λ b. not (bytes_eq x id) && b) (others-of ids i other within there x)) where
        by : (b : Bool) → bytes_eq x other ≡ b → (not (bytes_eq x id) && is_among (take i ids) x)
            ≡ (not (bytes_eq x id) && (b || is_among (take i ids) x))
        by true same =
            let is : bytes_eq x id ≡ true =
            (bytes_eq-Decides x id).1 ((bytes_eq-Decides x other).0 same ∙ sym ((bytes_eq-Decides id other).0 own)) in
            ap (λ b. not b && is_among (take i ids) x) is ∙ sym (ap (λ b. not b && true) is)
        by false other' = refl
