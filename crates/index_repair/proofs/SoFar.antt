-- What the loop of repair has made of the positions so far.
use Rattle.std.proofs.Common.{◌≡◌, ℕ, ◌+◌, ◌<◌, ◌≤◌, get_or, true, false, cond, List, [], ◌∷◌, ◌++◌, length, take, drop, Option, Some, None, refl, sym, ap, ◌∙◌, append_assoc, arith}
use Rattle.std.specs.List.{list_all}
use Rattle.std.proofs.lemmas.Bool.{cond_both, and_from, true_from_ne_false}
use Rattle.std.proofs.lemmas.List.{drop_more, drop_all, take_all}
use Rattle.std.proofs.lemmas.List.Folds.{list_all_more, list_all_at}
use Rattle.frac_keys.specs.Rising.{ends_rise, is_key_or_none}
use Rattle.frac_keys.specs.Between.{keys_between}
use Rattle.index_repair.specs.Repair.{kept_after, kept_key, filled_after, repaired_below, is_below, are_below}

-- what is made so far and what is to come are the repaired keys
pub record IsSoFar (above low : Option (List ℕ)) (run : ℕ) (keys : List (Option (List ℕ))) (i : ℕ)
    (new : List (List ℕ)) : Type 0 where
  pub made : new ++ filled_after above low run (kept_after low (drop i keys)) ≡ repaired_below above keys
  pub are_keys : list_all is_key_or_none (take i keys) ≡ true
  pub short : run ≤ i
  pub rise : ends_rise low above ≡ true

kept-one : (low x : Option (List ℕ)) (rest : List (Option (List ℕ))) (key : List ℕ) → kept_key low x ≡ Some key
    → kept_after low (x ∷ rest) ≡ Some key ∷ kept_after (Some key) rest
kept-one low None rest key h = cc
kept-one low (Some other) rest key h =
    cond_both (ends_rise low (Some other)) (Some other) None
    (λ kept. kept ≡ Some key → cond (ends_rise low (Some other)) (Some other ∷ kept_after (Some other) rest)
    (None ∷ kept_after low rest) ≡ Some key ∷ kept_after (Some key) rest)
    (λ t is. let same : other ≡ key = cc in
    ap (λ b. cond b (Some other ∷ kept_after (Some other) rest) (None ∷ kept_after low rest)) t
    ∙ ap (λ k. Some k ∷ kept_after (Some k) rest) same)
    (λ f is. cc) h

not_kept-one : (low x : Option (List ℕ)) (rest : List (Option (List ℕ))) → kept_key low x ≡ None
    → kept_after low (x ∷ rest) ≡ None ∷ kept_after low rest
not_kept-one low None rest h = refl
not_kept-one low (Some other) rest h =
    cond_both (ends_rise low (Some other)) (Some other) None
    (λ kept. kept ≡ None → cond (ends_rise low (Some other)) (Some other ∷ kept_after (Some other) rest)
    (None ∷ kept_after low rest) ≡ None ∷ kept_after low rest)
    (λ t is. cc)
    (λ f is. ap (λ b. cond b (Some other ∷ kept_after (Some other) rest) (None ∷ kept_after low rest)) f) h

kept-is : (low x : Option (List ℕ)) (key : List ℕ) → kept_key low x ≡ Some key → x ≡ Some key
kept-is low None key h = cc
kept-is low (Some other) key h = cond_both (ends_rise low (Some other)) (Some other) None (λ kept. kept ≡ Some key
    → Some other ≡ Some key) (λ _ is. is) (λ _ is. cc) h

module _ (above low : Option (List ℕ)) (run : ℕ) (keys : List (Option (List ℕ))) (i : ℕ) (new : List (List ℕ))
    (x : Option (List ℕ))
    (l : i < length keys) (is : x ≡ get_or keys i x) (key_or_none : is_key_or_none x ≡ true)
    (so_far : IsSoFar above low run keys i new) where
  behind : drop i keys ≡ x ∷ drop (i + 1) keys
  behind = drop_more keys i x l ∙ ap (λ y. y ∷ drop (i + 1) keys) (sym is)

  more_keys : list_all is_key_or_none (take (i + 1) keys) ≡ true
  more_keys =
      list_all_more is_key_or_none keys i x l
      ∙ and_from (list_all is_key_or_none (take i keys)) (is_key_or_none (get_or keys i x)) so_far.are_keys
      (ap is_key_or_none (sym is) ∙ key_or_none)

  below-at : are_below above keys ≡ true → is_below above x ≡ true
  below-at below =
      true_from_ne_false (is_below above x) (λ f. let no : list_all (is_below above) keys ≡ false =
      list_all_at (is_below above) keys i x l (ap (is_below above) (sym is) ∙ f) in cc)

  pub IsSoFar-kept : (key : List ℕ) → kept_key low x ≡ Some key → are_below above keys ≡ true
      → IsSoFar above (Some key) 0 keys (i + 1) ((new ++ keys_between low (Some key) run) ++ key ∷ [])
  IsSoFar-kept key kept below =
      let between = keys_between low (Some key) run in
      let rest = filled_after above (Some key) 0 (kept_after (Some key) (drop (i + 1) keys)) in
      record {
        made = append_assoc (new ++ between) (key ∷ []) rest ∙ append_assoc new between (key ∷ rest)
            ∙ ap (λ ks. new ++ filled_after above low run ks) (sym (kept-one low x (drop (i + 1) keys) key kept))
            ∙ ap (λ ks. new ++ filled_after above low run (kept_after low ks)) (sym behind) ∙ so_far.made;
        are_keys = more_keys;
        short = omega arith;
        rise = ap (is_below above) (sym (kept-is low x key kept)) ∙ below-at below;
      }

  pub IsSoFar-not_kept : kept_key low x ≡ None → IsSoFar above low (run + 1) keys (i + 1) new
  IsSoFar-not_kept not_kept =
      record {
        made = ap (λ n. new ++ filled_after above low n (kept_after low (drop (i + 1) keys))) (omega arith)
            ∙ ap (λ ks. new ++ filled_after above low run ks) (sym (not_kept-one low x (drop (i + 1) keys) not_kept))
            ∙ ap (λ ks. new ++ filled_after above low run (kept_after low ks)) (sym behind) ∙ so_far.made;
        are_keys = more_keys;
        short = omega (arith, so_far.short);
        rise = so_far.rise;
      }

-- at the end the last run is filled
pub IsSoFar-made : (above low : Option (List ℕ)) (run : ℕ) (keys : List (Option (List ℕ))) (i : ℕ) (new : List (List ℕ))
    → length keys ≤ i → IsSoFar above low run keys i new
    → new ++ keys_between low above run ≡ repaired_below above keys
IsSoFar-made above low run keys i new l so_far =
    ap (λ ks. new ++ filled_after above low run (kept_after low ks)) (sym (drop_all i keys l)) ∙ so_far.made

pub IsSoFar-keys : (above low : Option (List ℕ)) (run : ℕ) (keys : List (Option (List ℕ))) (i : ℕ) (new : List (List ℕ))
    → length keys ≤ i → IsSoFar above low run keys i new
    → list_all is_key_or_none keys ≡ true
IsSoFar-keys above low run keys i new l so_far =
    ap (list_all is_key_or_none) (sym (take_all i keys l)) ∙ so_far.are_keys
