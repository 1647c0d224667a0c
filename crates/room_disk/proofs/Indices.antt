-- All indices of a list, in order.
use Rattle.std.proofs.Common.{◌≡◌, ◌≢◌, ℕ, ◌+◌, List, [], ◌∷◌, ◌++◌, length, Some, refl, sym, ap, ap₂, ◌∙◌, arith, append_assoc, length-append}
use Rattle.std.specs.List.{AllPairs, filter_map, range_with_len, slice_get}
use Rattle.std.proofs.lemmas.List.FromFn.{get_or-range_with_len, length-range_with_len}

pub indices-apart : (n : ℕ) → AllPairs (λ i j. i ≢ j) (range_with_len 0 n)
indices-apart n i j d less within same =
    let long = length-range_with_len 0 n in
    omega (
      arith,
      get_or-range_with_len 0 n i d (omega (arith, long, less, within)),
      get_or-range_with_len 0 n j d (omega (arith, long, within)),
      same,
      less,
    )

at-front : {X : Type 0} (x : X) (xs ys : List X) → slice_get (ys ++ x ∷ xs) (length ys) ≡ Some x
at-front x xs [] = refl
at-front x xs (y ∷ ys) = at-front x xs ys

all-behind : {X : Type 0} (ys xs : List X) → filter_map (slice_get (ys ++ xs)) (range_with_len (length ys) (length xs))
    ≡ xs
all-behind ys [] = refl
all-behind ys (x ∷ xs) =
    let here = at-front x xs ys in
    let others : filter_map (slice_get (ys ++ x ∷ xs)) (range_with_len (length ys + 1) (length xs)) ≡ xs =
    ap₂ (λ zs n. filter_map (slice_get zs) (range_with_len n (length xs))) (sym (append_assoc ys (x ∷ []) xs))
    (sym (length-append ys (x ∷ [])))
    ∙ all-behind (ys ++ x ∷ []) xs in
    rw here (ap (λ zs. x ∷ zs) others)

pub all-in-order : {X : Type 0} (xs : List X) → filter_map (slice_get xs) (range_with_len 0 (length xs)) ≡ xs
all-in-order xs = all-behind [] xs
