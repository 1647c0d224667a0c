-- What is kept, and what the repaired keys are.
use Rattle.std.proofs.Common.{◌≡◌, ℕ, zero, suc, ◌+◌, ◌<◌, get_or, Bool, true, false, List, [], ◌∷◌, ◌++◌, length, map, Option, Some, None, replicate, refl, sym, ap, ap₂, subst, append-nil, arith}
use Rattle.std.specs.Prelude.{slice_get}
use Rattle.std.specs.List.{list_all, IsAllAdjacentAnswer}
use Rattle.std.proofs.lemmas.Bool.{cond_both, and_from, and_parts, and_left, and_right}
use Rattle.frac_keys.specs.Keys.{is_key, bytes_less}
use Rattle.frac_keys.specs.Rising.{ends_rise, is_key_or_none, rise_between, are_rising}
use Rattle.frac_keys.specs.Between.{keys_above, keys_below, keys_inside, keys_between}
use Rattle.frac_keys.proofs.CallerLemmas.{AreBetween, keys_between-law, rise_between-ends, AreBetween-join}
use Rattle.index_repair.specs.Repair.{kept_after, kept, IsAboveKept, AreKept, filled_after, repaired_below, repaired, is_below, are_below, KeepsAll}

-- a key that is kept before others that are below an end is below it
rest-below : (above : Option (List ℕ)) (key : Option (List ℕ)) (keys : List (Option (List ℕ)))
    → are_below above (key ∷ keys) ≡ true → are_below above keys ≡ true
rest-below above key keys h = (and_parts (is_below above key) (are_below above keys) h).1

-- the repaired keys are as many as the positions, are keys, and rise
filled-law : (above low : Option (List ℕ)) (run : ℕ) (keys : List (Option (List ℕ))) → is_key_or_none above ≡ true
    → ends_rise low above ≡ true → are_below above keys ≡ true
    → is_key_or_none low ≡ true → list_all is_key_or_none keys ≡ true
    → AreBetween low above (run + length keys) (filled_after above low run (kept_after low keys))
filled-law above low run [] top rise under h l =
    subst (λ n. AreBetween low above n (keys_between low above run)) (omega arith)
    (keys_between-law low above run h top rise)
filled-law above low run (None ∷ keys) top rise under h l =
    subst (λ n. AreBetween low above n (filled_after above low (suc run) (kept_after low keys))) (omega arith)
    (filled-law above low (suc run) keys top rise under h l)
filled-law above low run (Some key ∷ keys) top rise under h l =
    let p = and_parts (is_key key) (list_all is_key_or_none keys) l in
    let u = and_parts (ends_rise (Some key) above) (are_below above keys) under in
    cond_both (ends_rise low (Some key)) (Some key ∷ kept_after (Some key) keys) (None ∷ kept_after low keys)
    (λ kept. AreBetween low above (run + suc (length keys)) (filled_after above low run kept))
    (λ greater. AreBetween-join (run + suc (length keys)) (omega arith) p.0
    (keys_between-law low (Some key) run h p.0 greater)
    (filled-law above (Some key) 0 keys top u.0 u.1 p.0 p.1))
    (λ _. subst (λ n. AreBetween low above n (filled_after above low (suc run) (kept_after low keys))) (omega arith)
    (filled-law above low (suc run) keys top rise u.1 h p.1))

pub repaired_below-law : (above : Option (List ℕ)) (keys : List (Option (List ℕ))) → is_key_or_none above ≡ true
    → are_below above keys ≡ true → list_all is_key_or_none keys ≡ true
    → AreBetween None above (length keys) (repaired_below above keys)
unfolding repaired_below
repaired_below-law above keys top under h =
    subst (λ n. AreBetween None above n (filled_after above None 0 (kept_after None keys))) (omega arith)
    (filled-law above None 0 keys top refl under refl h)

pub all-below : (keys : List (Option (List ℕ))) → are_below None keys ≡ true
all-below [] = refl
all-below (None ∷ keys) = all-below keys
all-below (Some key ∷ keys) = all-below keys

pub repaired-law : (keys : List (Option (List ℕ))) → list_all is_key_or_none keys ≡ true
    → AreBetween None None (length keys) (repaired keys)
repaired-law keys h = repaired_below-law None keys refl (all-below keys) h

-- Keys behind a run of positions without one keep their places behind as many new keys.
keeps_run : (run : ℕ) (news rest : List (List ℕ)) (keys : List (Option (List ℕ))) → length news ≡ run
    → KeepsAll keys rest → KeepsAll (replicate run None ++ keys) (news ++ rest)
keeps_run zero [] rest keys e h = h
keeps_run zero (new ∷ news) rest keys e h = absurd (omega arith)
keeps_run (suc run) [] rest keys e h = absurd (omega arith)
keeps_run (suc run) (new ∷ news) rest keys e h = keeps_run run news rest keys (omega arith) h

longer_run : (run : ℕ) (keys : List (Option (List ℕ)))
    → replicate run None ++ None ∷ keys ≡ None ∷ (replicate run None ++ keys)
longer_run zero keys = refl
longer_run (suc run) keys = ap (λ ks. None ∷ ks) (longer_run run keys)

filled-keeps : (above low : Option (List ℕ)) (run : ℕ) (keys : List (Option (List ℕ))) → is_key_or_none above ≡ true
    → ends_rise low above ≡ true → are_below above keys ≡ true
    → is_key_or_none low ≡ true → list_all is_key_or_none keys ≡ true
    → KeepsAll (replicate run None ++ kept_after low keys) (filled_after above low run (kept_after low keys))
filled-keeps above low run [] top rise under h l =
    let p = keys_between-law low above run h top rise in
    subst (KeepsAll (replicate run None ++ [])) (append-nil (keys_between low above run))
    (keeps_run run (keys_between low above run) [] [] p.count tt)
filled-keeps above low run (None ∷ keys) top rise under h l =
    longer above low run keys (filled-keeps above low (suc run) keys top rise under h l) where
      longer : (above low : Option (List ℕ)) (run : ℕ) (keys : List (Option (List ℕ)))
          → KeepsAll (replicate (suc run) None ++ kept_after low keys)
          (filled_after above low (suc run) (kept_after low keys))
          → KeepsAll (replicate run None ++ None ∷ kept_after low keys)
          (filled_after above low (suc run) (kept_after low keys))
      longer above low run keys h = subst (λ ks. KeepsAll ks (filled_after above low (suc run) (kept_after low keys)))
          (sym (longer_run run (kept_after low keys))) h
filled-keeps above low run (Some key ∷ keys) top rise under h l =
    let p = and_parts (is_key key) (list_all is_key_or_none keys) l in
    let u = and_parts (ends_rise (Some key) above) (are_below above keys) under in
    cond_both (ends_rise low (Some key)) (Some key ∷ kept_after (Some key) keys) (None ∷ kept_after low keys)
    (λ kept. KeepsAll (replicate run None ++ kept) (filled_after above low run kept))
    (λ greater.
    let b = keys_between-law low (Some key) run h p.0 greater in
    keeps_run run (keys_between low (Some key) run) (key ∷ filled_after above (Some key) 0 (kept_after (Some key) keys))
    (Some key ∷ kept_after (Some key) keys) b.count
    (refl, filled-keeps above (Some key) 0 keys top u.0 u.1 p.0 p.1))
    (λ _. subst (λ ks. KeepsAll ks (filled_after above low (suc run) (kept_after low keys)))
    (sym (longer_run run (kept_after low keys))) (filled-keeps above low (suc run) keys top rise u.1 h p.1))

pub repaired_below-keeps : (above : Option (List ℕ)) (keys : List (Option (List ℕ))) → is_key_or_none above ≡ true
    → are_below above keys ≡ true → list_all is_key_or_none keys ≡ true
    → KeepsAll (kept keys) (repaired_below above keys)
unfolding repaired_below
repaired_below-keeps above keys top under h = filled-keeps above None 0 keys top refl under refl h

pub repaired-keeps : (keys : List (Option (List ℕ))) → list_all is_key_or_none keys ≡ true
    → KeepsAll (kept keys) (repaired keys)
repaired-keeps keys h = repaired_below-keeps None keys refl (all-below keys) h

-- Rising keys stay as they are.
pub none_between : (low : Option (List ℕ)) (high : Option (List ℕ)) → keys_between low high 0 ≡ []
unfolding keys_above keys_below keys_inside
none_between low None = refl
none_between None (Some b) = refl
none_between (Some a) (Some b) = refl

filled-rising : (low : Option (List ℕ)) (keys : List (List ℕ)) → rise_between low None keys ≡ true
    → filled_after None low 0 (kept_after low (map Some keys)) ≡ keys
filled-rising low [] h = none_between low None
filled-rising low (key ∷ keys) h =
    let p = and_parts (ends_rise low (Some key)) (rise_between (Some key) None keys) h in
    cond_both (ends_rise low (Some key)) (Some key ∷ kept_after (Some key) (map Some keys))
    (None ∷ kept_after low (map Some keys))
    (λ kept. filled_after None low 0 kept ≡ key ∷ keys)
    (λ _. ap₂ (λ none rest. none ++ key ∷ rest) (none_between low (Some key)) (filled-rising (Some key) keys p.1))
    (λ f. absurd (cc))

pub repaired-rising : (keys : List (List ℕ)) → are_rising keys ≡ true → repaired (map Some keys) ≡ keys
unfolding repaired_below
repaired-rising keys h = filled-rising None keys h

-- What is kept, by positions.
length-kept_after : (low : Option (List ℕ)) (keys : List (Option (List ℕ))) → length (kept_after low keys) ≡ length keys
length-kept_after low [] = refl
length-kept_after low (None ∷ keys) = ap suc (length-kept_after low keys)
length-kept_after low (Some key ∷ keys) =
    cond_both (ends_rise low (Some key)) (Some key ∷ kept_after (Some key) keys) (None ∷ kept_after low keys)
    (λ kept. length kept ≡ suc (length keys))
    (λ _. ap suc (length-kept_after (Some key) keys))
    (λ _. ap suc (length-kept_after low keys))

-- a position that is kept has a key that is above the end and above all kept before
record IsKeptAt (low : Option (List ℕ)) (keys kept : List (Option (List ℕ))) (i : ℕ) (key : List ℕ) : Type 0 where
  has_key : slice_get keys i ≡ Some (Some key)
  above_end : ends_rise low (Some key) ≡ true
  above : IsAboveKept kept i key

nothing_before : (kept : List (Option (List ℕ))) (key : List ℕ) → IsAboveKept kept 0 key
nothing_before kept key j other l e = absurd (omega arith)

above-none : (kept : List (Option (List ℕ))) (i : ℕ) (key : List ℕ) → IsAboveKept kept i key
    → IsAboveKept (None ∷ kept) (suc i) key
above-none kept i key h zero other l e = cc
above-none kept i key h (suc j) other l e = h j other (omega arith) e

above-some : (first : List ℕ) (kept : List (Option (List ℕ))) (i : ℕ) (key : List ℕ) → bytes_less first key ≡ true
    → IsAboveKept kept i key → IsAboveKept (Some first ∷ kept) (suc i) key
above-some first kept i key less h zero other l e =
    let same : first ≡ other = cc in subst (λ k. bytes_less k key ≡ true) same less
above-some first kept i key less h (suc j) other l e = h j other (omega arith) e

above-rest : (first : Option (List ℕ)) (kept : List (Option (List ℕ))) (i : ℕ) (key : List ℕ)
    → IsAboveKept (first ∷ kept) (suc i) key → IsAboveKept kept i key
above-rest first kept i key h j other l e = h (suc j) other (omega arith) e

-- the positions behind one that isn't kept, and behind one that is
behind_none : {low : Option (List ℕ)} (first : Option (List ℕ)) {keys kept : List (Option (List ℕ))} {i : ℕ}
    {key : List ℕ} → IsKeptAt low keys kept i key → IsKeptAt low (first ∷ keys) (None ∷ kept) (suc i) key
behind_none first {keys} {kept} {i} {key} k =
    record { has_key = k.has_key; above_end = k.above_end; above = above-none kept i key k.above }

behind_some : {low : Option (List ℕ)} {first : List ℕ} {keys kept : List (Option (List ℕ))} {i : ℕ} {key : List ℕ}
    → ends_rise low (Some first) ≡ true
    → IsKeptAt (Some first) keys kept i key → IsKeptAt low (Some first ∷ keys) (Some first ∷ kept) (suc i) key
behind_some {low} {first} {keys} {kept} {i} {key} rise k = record {
  has_key = k.has_key;
  above_end = rise_between-ends low (Some key) (first ∷ [])
      (and_from (ends_rise low (Some first)) (ends_rise (Some first) (Some key)) rise k.above_end);
  above = above-some first kept i key k.above_end k.above;
}

kept_at : (low : Option (List ℕ)) (keys : List (Option (List ℕ))) (i : ℕ) (key : List ℕ)
    → slice_get (kept_after low keys) i ≡ Some (Some key) → IsKeptAt low keys (kept_after low keys) i key
kept_at low [] i key h = cc
kept_at low (None ∷ keys) zero key h = cc
kept_at low (None ∷ keys) (suc i) key h = behind_none None (kept_at low keys i key h)
kept_at low (Some first ∷ keys) zero key h =
    cond_both (ends_rise low (Some first)) (Some first ∷ kept_after (Some first) keys) (None ∷ kept_after low keys)
    (λ kept. slice_get kept 0 ≡ Some (Some key) → IsKeptAt low (Some first ∷ keys) kept 0 key)
    (λ rise h. record {
      has_key = h;
      above_end =
          (let same : first ≡ key = cc in subst (λ k. ends_rise low (Some k) ≡ true) same rise);
      above =
          nothing_before (Some first ∷ kept_after (Some first) keys) key;
    })
    (λ _ h. cc) h
kept_at low (Some first ∷ keys) (suc i) key h =
    cond_both (ends_rise low (Some first)) (Some first ∷ kept_after (Some first) keys) (None ∷ kept_after low keys)
    (λ kept. slice_get kept (suc i) ≡ Some (Some key) → IsKeptAt low (Some first ∷ keys) kept (suc i) key)
    (λ rise h. behind_some rise (kept_at (Some first) keys i key h))
    (λ _ h. behind_none (Some first) (kept_at low keys i key h)) h

-- and such a position is kept
at_kept : (low : Option (List ℕ)) (keys : List (Option (List ℕ))) (i : ℕ) (key : List ℕ)
    → slice_get keys i ≡ Some (Some key) → ends_rise low (Some key) ≡ true → IsAboveKept (kept_after low keys) i key
    → slice_get (kept_after low keys) i ≡ Some (Some key)
at_kept low [] i key there above_end above = cc
at_kept low (None ∷ keys) zero key there above_end above = cc
at_kept low (None ∷ keys) (suc i) key there above_end above =
    at_kept low keys i key there above_end (above-rest None (kept_after low keys) i key above)
at_kept low (Some first ∷ keys) zero key there above_end above =
    cond_both (ends_rise low (Some first)) (Some first ∷ kept_after (Some first) keys) (None ∷ kept_after low keys)
    (λ kept. IsAboveKept kept 0 key → slice_get kept 0 ≡ Some (Some key))
    (λ _ _. there)
    (λ lower _. absurd (let same : first ≡ key = cc in cc)) above
at_kept low (Some first ∷ keys) (suc i) key there above_end above =
    cond_both (ends_rise low (Some first)) (Some first ∷ kept_after (Some first) keys) (None ∷ kept_after low keys)
    (λ kept. IsAboveKept kept (suc i) key → slice_get kept (suc i) ≡ Some (Some key))
    (λ _ above. at_kept (Some first) keys i key there (above 0 first (omega arith) refl)
    (above-rest (Some first) (kept_after (Some first) keys) i key above))
    (λ _ above. at_kept low keys i key there above_end (above-rest None (kept_after low keys) i key above)) above

pub kept-law : (keys : List (Option (List ℕ))) → AreKept keys (kept keys)
kept-law keys = record {
  count = length-kept_after None keys;
  each = λ i key. (
    (λ h. let k = kept_at None keys i key h in (k.has_key, k.above)),
    (λ h. at_kept None keys i key h.0 refl h.1),
  );
}

-- Whether each key is less than the next tells whether the keys rise.
rise_from_neighbours : (first : List ℕ) (keys : List (List ℕ))
    → ((i : ℕ) (d : List ℕ) → i + 1 < length (first ∷ keys)
    → true ≡ bytes_less (get_or (first ∷ keys) i d) (get_or (first ∷ keys) (i + 1) d))
    → rise_between (Some first) None keys ≡ true
rise_from_neighbours first [] h = refl
rise_from_neighbours first (key ∷ keys) h =
    and_from (bytes_less first key) (rise_between (Some key) None keys) (sym (h 0 [] (omega arith)))
    (rise_from_neighbours key keys (λ i d l.
    let next : suc i + 1 ≡ suc (i + 1) = omega arith in
    subst (λ n. true ≡ bytes_less (get_or (key ∷ keys) i d) (get_or (first ∷ key ∷ keys) n d)) next
    (h (suc i) d (omega arith))))

fall_from_neighbours : (first : List ℕ) (keys : List (List ℕ)) (i : ℕ) → i + 1 < length (first ∷ keys)
    → ((d : List ℕ) → false ≡ bytes_less (get_or (first ∷ keys) i d) (get_or (first ∷ keys) (i + 1) d))
    → rise_between (Some first) None keys ≡ false
fall_from_neighbours first [] i l h = absurd (omega arith)
fall_from_neighbours first (key ∷ keys) zero l h =
    and_left (bytes_less first key) (rise_between (Some key) None keys) (sym (h []))
fall_from_neighbours first (key ∷ keys) (suc i) l h =
    and_right (bytes_less first key) (rise_between (Some key) None keys)
    (fall_from_neighbours key keys i (omega arith) (λ d.
    let next : suc i + 1 ≡ suc (i + 1) = omega arith in
    subst (λ n. false ≡ bytes_less (get_or (key ∷ keys) i d) (get_or (first ∷ key ∷ keys) n d)) next (h d)))

pub are_rising-neighbours : (keys : List (List ℕ)) (r : Bool) → IsAllAdjacentAnswer (λ x y b. b ≡ bytes_less x y) keys r
    → r ≡ are_rising keys
are_rising-neighbours [] true h = refl
are_rising-neighbours [] false h = absurd (let l : h.0 + 1 < 0 = h.1 in omega arith)
are_rising-neighbours (key ∷ keys) true h = sym (rise_from_neighbours key keys h)
are_rising-neighbours (key ∷ keys) false h = sym (fall_from_neighbours key keys h.0 h.1 h.2)

-- All of this in one, for the code.
pub record AreRepairedBelow (above : Option (List ℕ)) (keys : List (Option (List ℕ))) (new : List (List ℕ)) :
    Type 0 where
  pub count : length new ≡ length keys
  pub rise : rise_between None above new ≡ true
  pub keeps : KeepsAll (kept keys) new
  pub new_keys : list_all is_key new ≡ true

pub AreRepairedBelow-from : (above : Option (List ℕ)) (keys : List (Option (List ℕ))) (new : List (List ℕ))
    → new ≡ repaired_below above keys → is_key_or_none above ≡ true → are_below above keys ≡ true
    → list_all is_key_or_none keys ≡ true → AreRepairedBelow above keys new
AreRepairedBelow-from above keys new e top under h =
    let between = repaired_below-law above keys top under h in
    subst (AreRepairedBelow above keys) (sym e)
    (record {
      count = between.count;
      rise = between.rise;
      keeps = repaired_below-keeps above keys top under h;
      new_keys = between.are_keys;
    })

pub record AreRepaired (keys : List (Option (List ℕ))) (new : List (List ℕ)) : Type 0 where
  pub count : length new ≡ length keys
  pub rise : are_rising new ≡ true
  pub keeps : KeepsAll (kept keys) new
  pub new_keys : list_all is_key new ≡ true

pub AreRepaired-from : (keys : List (Option (List ℕ))) (new : List (List ℕ)) → new ≡ repaired keys
    → list_all is_key_or_none keys ≡ true → AreRepaired keys new
AreRepaired-from keys new e h =
    let are = AreRepairedBelow-from None keys new e refl (all-below keys) h in
    record { count = are.count; rise = are.rise; keeps = are.keeps; new_keys = are.new_keys }
