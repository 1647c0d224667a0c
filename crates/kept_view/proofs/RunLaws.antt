-- Keys that are repaired part by part, where one more comes into a part.
use Rattle.std.proofs.Common.{◌≡◌, ℕ, suc, ◌+◌, Bool, true, false, List, [], ◌∷◌, ◌++◌, length, take, drop, Option, Some, None, refl, sym, ap, ap₂, ◌∙◌, append-nil, append_assoc, length-append, arith}
use Rattle.std.specs.List.{list_all}
use Rattle.std.specs.Cmp.{IsStrictWeakOrder}
use Rattle.std.specs.Cmp.Lexicographic.{nat_list_cmp_total}
use Rattle.std.proofs.lemmas.Bool.{and_from, and_parts}
use Rattle.std.proofs.lemmas.List.Sorted.{ranks_by}
use Rattle.std.proofs.lemmas.List.{take_at, drop_at}
use Rattle.frac_keys.specs.Keys.{is_key, bytes_less}
use Rattle.frac_keys.specs.Rising.{is_key_or_none}
use Rattle.index_repair.specs.Repair.{repaired, repaired_below, are_below, is_below, is_up_to, NeverFall}
use Rattle.index_repair.proofs.CallerLemmas.{none_between, repaired_below-law, all-below, repaired-cut, under-last}
use Rattle.kept_view.specs.inner.Runs.{first_of, last_of, key_rises, is_cut}

pub none-repaired : (above : Option (List ℕ)) → repaired_below above [] ≡ []
unfolding repaired_below
none-repaired above = none_between None above

pub cut-repaired : (before after : List (Option (List ℕ))) → is_cut before after ≡ true
    → repaired (before ++ after) ≡ repaired_below (first_of after) before ++ repaired after
cut-repaired before [] cut = ap repaired (append-nil before)
    ∙ sym (ap (λ keys. repaired_below None before ++ keys) (none-repaired None)
    ∙ append-nil (repaired_below None before))
cut-repaired [] (None ∷ after) cut = ap (λ keys. keys ++ repaired (None ∷ after)) (sym (none-repaired None))
cut-repaired (x ∷ before) (None ∷ after) cut = cc
cut-repaired [] (Some key ∷ after) cut = repaired-cut None [] key after cut
cut-repaired (x ∷ before) (Some key ∷ after) cut = repaired-cut None (x ∷ before) key after cut

-- a part between two cuts
pub part-repaired : (before part after : List (Option (List ℕ))) → is_cut before (part ++ after) ≡ true
    → is_cut part after ≡ true
    → repaired (before ++ (part ++ after)) ≡ repaired_below (first_of (part ++ after)) before
    ++ (repaired_below (first_of after) part ++ repaired after)
part-repaired before part after cut next =
    cut-repaired before (part ++ after) cut
    ∙ ap (λ keys. repaired_below (first_of (part ++ after)) before ++ keys) (cut-repaired part after next)

-- ---- where keys never fall, a key that rises is above all before it
less-order : IsStrictWeakOrder bytes_less
less-order = ranks_by nat_list_cmp_total (λ a. a)

pub rises-below : (keys : List (Option (List ℕ))) (key : List ℕ) → NeverFall keys
    → key_rises (last_of keys) (Some key) ≡ true → are_below (Some key) keys ≡ true
rises-below [] key never rises = refl
rises-below (None ∷ []) key never rises = cc
rises-below (Some a ∷ []) key never rises = and_from (bytes_less a key) true rises refl
rises-below (x ∷ y ∷ keys) key never rises =
    let later = rises-below (y ∷ keys) key (λ i j d l m. never (suc i) (suc j) d (omega arith) (omega arith)) rises in
    and_from (is_below (Some key) x) (are_below (Some key) (y ∷ keys))
    (first x y (never 0 1 None (omega arith) (omega arith))
    (and_parts (is_below (Some key) y) (are_below (Some key) keys) later).0 keys never rises) later
  where
    none-last : (ks : List (Option (List ℕ))) → NeverFall (None ∷ ks) → last_of (None ∷ ks) ≡ None
    none-last [] never = refl
    none-last (None ∷ ks) never = none-last ks (λ i j d l m. never (suc i) (suc j) d (omega arith) (omega arith))
    none-last (Some k ∷ ks) never = let up = never 0 1 None (omega arith) (omega arith) in cc

    first : (x y : Option (List ℕ)) → is_up_to x y ≡ true → is_below (Some key) y ≡ true → (ks : List (Option (List ℕ)))
        → NeverFall (x ∷ y ∷ ks) → key_rises (last_of (y ∷ ks)) (Some key) ≡ true → is_below (Some key) x ≡ true
    first None y up below ks never rises = refl
    first (Some a) None up below ks never rises =
        let none = none-last ks (λ i j d l m. never (suc i) (suc j) d (omega arith) (omega arith)) in
        absurd (no (ap (λ k. key_rises k (Some key)) (sym none) ∙ rises))
      where
        no : false ≡ true → ⊥
        no h = cc
    first (Some a) (Some b) up below ks never rises = under-last (Some a) b key up below

-- ---- one more comes into a part
pub all-without : (p : Option (List ℕ) → Bool) (xs : List (Option (List ℕ))) (x : Option (List ℕ))
    (ys : List (Option (List ℕ))) → list_all p (xs ++ x ∷ ys) ≡ true → list_all p (xs ++ ys) ≡ true
all-without p [] x ys h = (and_parts (p x) (list_all p ys) h).1
all-without p (y ∷ xs) x ys h =
    let parts = and_parts (p y) (list_all p (xs ++ x ∷ ys)) h in
    and_from (p y) (list_all p (xs ++ ys)) parts.0 (all-without p xs x ys parts.1)

pub cut-without : (xs : List (Option (List ℕ))) (x : Option (List ℕ)) (ys after : List (Option (List ℕ)))
    → is_cut (xs ++ x ∷ ys) after ≡ true → is_cut (xs ++ ys) after ≡ true
cut-without xs x ys [] cut = by (xs ++ ys) where
  by : (zs : List (Option (List ℕ))) → is_cut zs [] ≡ true
  by [] = refl
  by (z ∷ zs) = refl
cut-without [] x ys (None ∷ after) cut = cc
cut-without (y ∷ xs) x ys (None ∷ after) cut = cc
cut-without xs x ys (Some key ∷ after) cut =
    to (xs ++ ys) (all-without (is_below (Some key)) xs x ys (from (xs ++ x ∷ ys) cut)) where
      from : (zs : List (Option (List ℕ))) → is_cut zs (Some key ∷ after) ≡ true → are_below (Some key) zs ≡ true
      from [] cut = cut
      from (z ∷ zs) cut = cut

      to : (zs : List (Option (List ℕ))) → are_below (Some key) zs ≡ true → is_cut zs (Some key ∷ after) ≡ true
      to [] cut = cut
      to (z ∷ zs) cut = cut

-- ---- there are as many keys as positions
pub split-all : (p : Option (List ℕ) → Bool) (xs ys : List (Option (List ℕ))) → list_all p (xs ++ ys) ≡ true
    → (list_all p xs ≡ true) × (list_all p ys ≡ true)
split-all p [] ys h = (refl, h)
split-all p (x ∷ xs) ys h =
    let parts = and_parts (p x) (list_all p (xs ++ ys)) h in
    let rest = split-all p xs ys parts.1 in
    (and_from (p x) (list_all p xs) parts.0 rest.0, rest.1)

pub cut-count : (before after : List (Option (List ℕ))) → is_cut before after ≡ true
    → list_all is_key_or_none (before ++ after) ≡ true → length (repaired_below (first_of after) before) ≡ length before
cut-count before [] cut keys =
    (repaired_below-law None before refl (all-below before) (split-all is_key_or_none before [] keys).0).count
cut-count [] (None ∷ after) cut keys = ap length (none-repaired None)
cut-count (x ∷ before) (None ∷ after) cut keys = cc
cut-count [] (Some key ∷ after) cut keys = ap length (none-repaired (Some key))
cut-count (x ∷ before) (Some key ∷ after) cut keys =
    let parts = split-all is_key_or_none (x ∷ before) (Some key ∷ after) keys in
    (repaired_below-law (Some key) (x ∷ before) (and_parts (is_key key) (list_all is_key_or_none after) parts.1).0 cut
    parts.0).count

-- ---- a part of a list is exchanged
module _ (before part other after : List (Option (List ℕ))) (keys : list_all is_key_or_none (before ++ (part ++ after))
    ≡ true)
    (cut : is_cut before (part ++ after) ≡ true) (cut_other : is_cut before (other ++ after) ≡ true)
    (next : is_cut part after ≡ true) (next_other : is_cut other after ≡ true)
    (first : repaired_below (first_of (other ++ after)) before ≡ repaired_below (first_of (part ++ after)) before) where
  count-before : length before ≡ length (repaired_below (first_of (part ++ after)) before)
  count-before = sym (cut-count before (part ++ after) cut keys)

  count-part : length part ≡ length (repaired_below (first_of after) part)
  count-part = sym (cut-count part after next (split-all is_key_or_none before (part ++ after) keys).1)

  whole : repaired (before ++ (part ++ after)) ≡ repaired_below (first_of (part ++ after)) before
      ++ (repaired_below (first_of after) part ++ repaired after)
  whole = part-repaired before part after cut next

  pub part-exchanged : repaired (before ++ (other ++ after))
      ≡ take (length before) (repaired (before ++ (part ++ after)))
      ++ (repaired_below (first_of after) other
      ++ drop (length before + length part) (repaired (before ++ (part ++ after))))
  part-exchanged =
      let a = repaired_below (first_of (part ++ after)) before in
      let b = repaired_below (first_of after) part in
      let c = repaired after in
      let start : take (length before) (repaired (before ++ (part ++ after))) ≡ a =
      ap (take (length before)) whole ∙ take_at a (b ++ c) (length before) (sym count-before) in
      let end' : drop (length before + length part) (repaired (before ++ (part ++ after))) ≡ c =
      ap (drop (length before + length part)) (whole ∙ sym (append_assoc a b c))
      ∙ drop_at (a ++ b) c (length before + length part) (length-append a b
      ∙ ap₂ (λ m n. m + n) (sym count-before) (sym count-part)) in
      part-repaired before other after cut_other next_other
      ∙ ap₂ (λ xs ys. xs ++ (repaired_below (first_of after) other ++ ys)) (first ∙ sym start) (sym end')
