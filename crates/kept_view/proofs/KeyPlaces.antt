-- The stored keys of shown elements, by their places.
use Rattle.std.proofs.Common.{◌≡◌, ℕ, zero, suc, ◌<◌, ◌≤◌, true, List, [], ◌∷◌, ◌++◌, length, take, drop, get_or, slice_get, Option, Some, refl, sym, ap, ◌∙◌, arith}
use Rattle.std.proofs.lemmas.List.{length-map, drop_all}
use Rattle.std.proofs.lemmas.Option.{same_Some}
use Rattle.index_repair.specs.Repair.{are_below}
use Rattle.elem.specs.ElementValue.{ElementValue}
use Rattle.view.specs.Shown.{as_stored}
use Rattle.kept_view.specs.inner.Runs.{first_of, last_of, key_rises, rises_at, is_cut, part_of, stored_keys}
use Rattle.kept_view.proofs.RekeyedLaws.{cut-first}

pub stored_index_is : (live drawn : List ElementValue) (i : ℕ) (s : ElementValue) → i < length drawn
    → s ≡ get_or drawn i s → slice_get (stored_keys live drawn) i ≡ Some (as_stored live s).index
stored_index_is live [] i s l is = absurd (omega arith)
stored_index_is live (d ∷ drawn) zero s l is = ap (λ x. Some (as_stored live x).index) (sym is)
stored_index_is live (d ∷ drawn) (suc i) s l is = stored_index_is live drawn i s (omega arith) is

pub first_drop : (keys : List (Option (List ℕ))) (i : ℕ) (key : Option (List ℕ)) → slice_get keys i ≡ Some key
    → first_of (drop i keys) ≡ key
first_drop [] i key is = cc
first_drop (k ∷ keys) zero key is = same_Some k key is
first_drop (k ∷ keys) (suc i) key is = first_drop keys i key is

pub last_take : (keys : List (Option (List ℕ))) (i : ℕ) (key : Option (List ℕ)) → slice_get keys i ≡ Some key
    → last_of (take (suc i) keys) ≡ key
last_take [] i key is = cc
last_take (k ∷ keys) zero key is = same_Some k key is
last_take (k ∷ []) (suc i) key is = cc
last_take (k ∷ m ∷ keys) (suc i) key is = last_take (m ∷ keys) i key is

pub rises_is : (keys : List (Option (List ℕ))) (i j : ℕ) (key next : Option (List ℕ)) → suc i ≡ j
    → slice_get keys i ≡ Some key → slice_get keys j ≡ Some next → key_rises key next ≡ rises_at keys j
rises_is keys i j key next at' first second =
    sym (ap (λ n. key_rises (last_of (take n keys)) (first_of (drop j keys))) (sym at')
    ∙ ap (λ k. key_rises k (first_of (drop j keys))) (last_take keys i key first)
    ∙ ap (key_rises key) (first_drop keys j next second))

pub part_none : (keys : List (Option (List ℕ))) (start : ℕ) → [] ≡ part_of keys start start
part_none keys zero = refl
part_none [] (suc start) = refl
part_none (k ∷ keys) (suc start) = part_none keys start

pub part_more : (keys : List (Option (List ℕ))) (start i j : ℕ) (key : Option (List ℕ)) → start ≤ i → j ≡ suc i
    → slice_get keys i ≡ Some key → part_of keys start i ++ key ∷ [] ≡ part_of keys start j
part_more keys start i j key l at' is = by keys start i l is ∙ ap (part_of keys start) (sym at') where
  by : (ks : List (Option (List ℕ))) (s i : ℕ) → s ≤ i → slice_get ks i ≡ Some key
      → part_of ks s i ++ key ∷ [] ≡ part_of ks s (suc i)
  by [] s i l is = cc
  by (k ∷ ks) zero zero l is = ap (λ x. x ∷ []) (sym (same_Some k key is))
  by (k ∷ ks) zero (suc i) l is = ap (λ xs. k ∷ xs) (by ks zero i (omega arith) is)
  by (k ∷ ks) (suc s) zero l is = absurd (omega arith)
  by (k ∷ ks) (suc s) (suc i) l is = by ks s i (omega arith) is

pub past_keys : (live drawn : List ElementValue) (i : ℕ) → i ≡ length drawn → drop i (stored_keys live drawn) ≡ []
past_keys live drawn i is =
    drop_all i (stored_keys live drawn) (omega (arith, is, length-map drawn (λ e. (as_stored live e).index)))

-- where a part may be cut off
pub cut_end : (part after : List (Option (List ℕ))) → after ≡ [] → is_cut part after ≡ true
cut_end part after is = ap (is_cut part) is ∙ by part where
  by : (ks : List (Option (List ℕ))) → is_cut ks [] ≡ true
  by [] = refl
  by (k ∷ ks) = refl

pub cut_key : (part after : List (Option (List ℕ))) (key : List ℕ) → are_below (Some key) part ≡ true
    → Some key ≡ first_of after → is_cut part after ≡ true
cut_key part after key below is = cut-first part after key below (sym is)
