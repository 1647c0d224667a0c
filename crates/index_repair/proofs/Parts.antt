-- Repair of a list part by part: at a kept key, and at a key above all before it.
use Rattle.std.proofs.Common.{◌≡◌, ℕ, zero, suc, ◌+◌, ◌<◌, true, false, cond, List, [], ◌∷◌, ◌++◌, length, get_or, replicate, Option, Some, None, refl, sym, ap, ◌∙◌, subst₂, append_assoc, length-append, arith}
use Rattle.std.specs.Cmp.{IsStrictWeakOrder}
use Rattle.std.specs.Cmp.Lexicographic.{nat_list_cmp_total}
use Rattle.std.proofs.Math.Seq.{get_or-append_seam}
use Rattle.std.proofs.lemmas.Bool.{cond-true, and_from, and_parts, both_ways, not-true, true_from_ne_false}
use Rattle.std.proofs.lemmas.List.{get_or_append_left}
use Rattle.std.proofs.lemmas.List.Sorted.{ranks_by}
use Rattle.frac_keys.specs.Keys.{bytes_less}
use Rattle.frac_keys.specs.Rising.{ends_rise}
use Rattle.frac_keys.specs.Between.{keys_between}
use Rattle.index_repair.specs.Repair.{kept_after, filled_after, filled, repaired_below, is_below, are_below, is_up_to, NeverFall}
use Rattle.index_repair.proofs.RepairLaws.{none_between}

-- a run is filled with the keys between its ends
run_after : (above low : Option (List ℕ)) (run n : ℕ) → filled_after above low run (replicate n None)
    ≡ keys_between low above (run + n)
run_after above low run zero = ap (keys_between low above) (omega arith)
run_after above low run (suc n) = run_after above low (suc run) n ∙ ap (keys_between low above) (omega arith)

pub run-filled : (low above : Option (List ℕ)) (n : ℕ) → filled low above (replicate n None) ≡ keys_between low above n
run-filled low above n = run_after above low 0 n ∙ ap (keys_between low above) (omega arith)

-- a key that is kept ends what comes before it, and begins what comes after it
split_after : (above low : Option (List ℕ)) (run : ℕ) (before : List (Option (List ℕ))) (key : List ℕ)
    (after : List (Option (List ℕ)))
    → filled_after above low run (before ++ Some key ∷ after) ≡ filled_after (Some key) low run before ++ key
    ∷ filled (Some key) above after
split_after above low run [] key after = refl
split_after above low run (None ∷ before) key after = split_after above low (suc run) before key after
split_after above low run (Some other ∷ before) key after =
    ap (λ keys. keys_between low (Some other) run ++ other ∷ keys) (split_after above (Some other) 0 before key after)
    ∙ sym (append_assoc (keys_between low (Some other) run) (other ∷ filled_after (Some key) (Some other) 0 before)
    (key ∷ filled (Some key) above after))

pub split-filled : (low above : Option (List ℕ)) (before : List (Option (List ℕ))) (key : List ℕ)
    (after : List (Option (List ℕ)))
    → filled low above (before ++ Some key ∷ after) ≡ filled low (Some key) before ++ key
    ∷ filled (Some key) above after
split-filled low above before key after = split_after above low 0 before key after

-- between two kept keys, at both ends, and where none is kept
pub run_between-filled : (low above : Option (List ℕ)) (before : List (Option (List ℕ))) (a : List ℕ) (n : ℕ)
    (b : List ℕ) (after : List (Option (List ℕ)))
    → filled low above (before ++ Some a ∷ (replicate n None ++ Some b ∷ after))
    ≡ filled low (Some a) before ++ a ∷ (keys_between (Some a) (Some b) n ++ b ∷ filled (Some b) above after)
run_between-filled low above before a n b after =
    split-filled low above before a (replicate n None ++ Some b ∷ after)
    ∙ ap (λ keys. filled low (Some a) before ++ a ∷ keys) (split-filled (Some a) above (replicate n None) b after
    ∙ ap (λ run. run ++ b ∷ filled (Some b) above after) (run-filled (Some a) (Some b) n))

pub first_run-filled : (low above : Option (List ℕ)) (n : ℕ) (b : List ℕ) (after : List (Option (List ℕ)))
    → filled low above (replicate n None ++ Some b ∷ after) ≡ keys_between low (Some b) n ++ b
    ∷ filled (Some b) above after
first_run-filled low above n b after = split-filled low above (replicate n None) b after
    ∙ ap (λ run. run ++ b ∷ filled (Some b) above after) (run-filled low (Some b) n)

pub last_run-filled : (low above : Option (List ℕ)) (before : List (Option (List ℕ))) (a : List ℕ) (n : ℕ)
    → filled low above (before ++ Some a ∷ replicate n None) ≡ filled low (Some a) before ++ a
    ∷ keys_between (Some a) above n
last_run-filled low above before a n = split-filled low above before a (replicate n None)
    ∙ ap (λ run. filled low (Some a) before ++ a ∷ run) (run-filled (Some a) above n)

-- ---- at a key above all before it
cut_after : (above low : Option (List ℕ)) (run : ℕ) (before : List (Option (List ℕ))) (key : List ℕ)
    (after : List (Option (List ℕ)))
    → ends_rise low (Some key) ≡ true → are_below (Some key) before ≡ true
    → filled_after above low run (kept_after low (before ++ Some key ∷ after))
    ≡ filled_after (Some key) low run (kept_after low before) ++ key
    ∷ filled_after above (Some key) 0 (kept_after (Some key) after)
cut_after above low run [] key after rise below =
    ap (filled_after above low run) (cond-true (ends_rise low (Some key)) (Some key ∷ kept_after (Some key) after)
    (None ∷ kept_after low after) rise)
cut_after above low run (None ∷ before) key after rise below = cut_after above low (suc run) before key after rise below
cut_after above low run (Some other ∷ before) key after rise below =
    let under = and_parts (ends_rise (Some other) (Some key)) (are_below (Some key) before) below in
    let rest = key ∷ filled_after above (Some key) 0 (kept_after (Some key) after) in
    elim (ends_rise low (Some other)) as
    (λ b. filled_after above low run (cond b (Some other ∷ kept_after (Some other) (before ++ Some key ∷ after))
    (None ∷ kept_after low (before ++ Some key ∷ after)))
    ≡ filled_after (Some key) low run (cond b (Some other ∷ kept_after (Some other) before)
    (None ∷ kept_after low before)) ++ rest) [
      | true ↦
          ap (λ keys. keys_between low (Some other) run ++ other ∷ keys)
          (cut_after above (Some other) 0 before key after under.0 under.1)
          ∙ sym (append_assoc (keys_between low (Some other) run)
          (other ∷ filled_after (Some key) (Some other) 0 (kept_after (Some other) before)) rest)
      | false ↦ cut_after above low (suc run) before key after rise under.1
    ]

pub repaired-cut : (above : Option (List ℕ)) (before : List (Option (List ℕ))) (key : List ℕ)
    (after : List (Option (List ℕ))) → are_below (Some key) before ≡ true
    → repaired_below above (before ++ Some key ∷ after) ≡ repaired_below (Some key) before
    ++ repaired_below above (Some key ∷ after)
unfolding repaired_below
repaired-cut above before key after below =
    cut_after above None 0 before key after refl below
    ∙ ap (λ none. filled_after (Some key) None 0 (kept_after None before)
    ++ (none ++ key ∷ filled_after above (Some key) 0 (kept_after (Some key) after)))
    (sym (none_between None (Some key)))

-- ---- keys that never fall
less-order : IsStrictWeakOrder bytes_less
less-order = ranks_by nat_list_cmp_total (λ a. a)

pub under-last : (x : Option (List ℕ)) (last key : List ℕ) → is_up_to x (Some last) ≡ true → bytes_less last key ≡ true
    → is_below (Some key) x ≡ true
under-last None last key up less = cc
under-last (Some a) last key up less =
    true_from_ne_false (bytes_less a key)
    (λ no. both_ways (bytes_less last key) (less-order.chain last a key (not-true (bytes_less last a) up) no) less)

all_under-last : (before : List (Option (List ℕ))) (last key : List ℕ)
    → ((i : ℕ) (d : Option (List ℕ)) → i < length before → is_up_to (get_or before i d) (Some last) ≡ true)
    → bytes_less last key ≡ true
    → are_below (Some key) (before ++ Some last ∷ []) ≡ true
all_under-last [] last key up less = and_from (bytes_less last key) true less refl
all_under-last (x ∷ before) last key up less =
    and_from (is_below (Some key) x) (are_below (Some key) (before ++ Some last ∷ []))
    (under-last x last key (up 0 None (omega arith)) less)
    (all_under-last before last key (λ i d l. up (suc i) d (omega arith)) less)

pub below-next : (before : List (Option (List ℕ))) (last key : List ℕ) → NeverFall (before ++ Some last ∷ [])
    → bytes_less last key ≡ true → are_below (Some key) (before ++ Some last ∷ []) ≡ true
below-next before last key never less =
    all_under-last before last key
    (λ i d l.
    subst₂ (λ x y. is_up_to x y ≡ true) (get_or_append_left before (Some last ∷ []) d i l)
    (get_or-append_seam before (Some last) [] d)
    (never i (length before) d l (rw (length-append before (Some last ∷ [])) (omega arith))))
    less
