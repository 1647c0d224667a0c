-- Elements whose keys were set from a place on, and the repaired keys of elements with one more or without one.
use Rattle.std.proofs.Common.{◌≡◌, ℕ, zero, suc, ◌+◌, ◌-◌, ◌<◌, ◌≤◌, Bool, true, false, not, ◌&&◌, bytes_eq, List, [], ◌∷◌, ◌++◌, length, take, drop, insert, remove, map, set, get_or, Option, Some, None, refl, sym, ap, ap₂, ◌∙◌, subst, subst₂, inl, inr, arith, length-drop, append_assoc, take-append-drop}
use Rattle.std.specs.List.{list_all}
use Rattle.std.specs.Cmp.{IsStrictWeakOrder}
use Rattle.std.specs.Cmp.Lexicographic.{nat_list_cmp_total}
use Rattle.std.proofs.lemmas.Bool.{and_from, and_parts, or_cases}
use Rattle.std.proofs.lemmas.List.{length-map, length-take, length-take-le, take-take, get_or-take, get_or_default, map-append}
use Rattle.std.proofs.Math.ListN.{get_or-map}
use Rattle.std.proofs.lemmas.List.Folds.{list_all-append}
use Rattle.std.proofs.lemmas.List.Sorted.{ranks_by}
use Rattle.std.proofs.lemmas.Option.{same_Some}
use Rattle.std.proofs.lemmas.Slice.Eq.{bytes_eq-Decides}
use Rattle.frac_keys.specs.Keys.{bytes_less}
use Rattle.frac_keys.specs.Rising.{is_key_or_none}
use Rattle.index_repair.specs.Repair.{repaired, repaired_below, are_below, NeverFall, is_up_to}
use Rattle.elem.specs.ElementValue.{ElementValue}
use Rattle.elem_store.specs.Updates.{ids_of}
use Rattle.index_repair.specs.Keyed.{index_of, with_index}
use Rattle.view.specs.Shown.{without_index, place_less, AreInSceneOrder}
use Rattle.kept_view.specs.inner.Coming.{rekeyed}
use Rattle.kept_view.specs.inner.Runs.{first_of, last_of, key_rises, is_cut, part_of, IsRunStart, AreKeysWith, AreKeysWithout}
use Rattle.kept_view.proofs.OrderedLaws.{map-insert, map-remove}
use Rattle.kept_view.proofs.RunLaws.{rises-below, cut-without, cut-count, part-exchanged, none-repaired, split-all, all-without}

-- ---- other keys from a place on
pub others-rekeyed : (start : ℕ) (keys : List (List ℕ)) (es : List ElementValue)
    → map without_index (rekeyed start keys es) ≡ map without_index es
others-rekeyed zero keys [] = refl
others-rekeyed zero [] (e ∷ es) = refl
others-rekeyed zero (key ∷ keys) (e ∷ es) = ap (λ xs. without_index e ∷ xs) (others-rekeyed zero keys es)
others-rekeyed (suc start) keys [] = refl
others-rekeyed (suc start) keys (e ∷ es) = ap (λ xs. without_index e ∷ xs) (others-rekeyed start keys es)

pub ids-rekeyed : (start : ℕ) (keys : List (List ℕ)) (es : List ElementValue)
    → ids_of (rekeyed start keys es) ≡ ids_of es
ids-rekeyed zero keys [] = refl
ids-rekeyed zero [] (e ∷ es) = refl
ids-rekeyed zero (key ∷ keys) (e ∷ es) = ap (λ xs. e.id ∷ xs) (ids-rekeyed zero keys es)
ids-rekeyed (suc start) keys [] = refl
ids-rekeyed (suc start) keys (e ∷ es) = ap (λ xs. e.id ∷ xs) (ids-rekeyed start keys es)

pub indices-rekeyed : (start : ℕ) (keys : List (List ℕ)) (es : List ElementValue) → start + length keys ≤ length es
    → map index_of (rekeyed start keys es) ≡ take start (map index_of es)
    ++ (map Some keys ++ drop (start + length keys) (map index_of es))
indices-rekeyed zero [] [] l = refl
indices-rekeyed zero (key ∷ keys) [] l = absurd (omega arith)
indices-rekeyed zero [] (e ∷ es) l = refl
indices-rekeyed zero (key ∷ keys) (e ∷ es) l =
    let n : suc (0 + length keys) ≡ 0 + suc (length keys) = omega arith in
    ap (λ xs. Some key ∷ xs) (indices-rekeyed zero keys es (omega arith))
    ∙ ap (λ m. Some key ∷ (map Some keys ++ drop m (e.index ∷ map index_of es))) n
indices-rekeyed (suc start) keys [] l = absurd (omega arith)
indices-rekeyed (suc start) keys (e ∷ es) l =
    let n : suc (start + length keys) ≡ suc start + length keys = omega arith in
    ap (λ xs. e.index ∷ xs) (indices-rekeyed start keys es (omega arith))
    ∙ ap (λ m. e.index ∷ (take start (map index_of es) ++ (map Some keys ++ drop m (e.index ∷ map index_of es)))) n

-- ---- parts of lists
module _ {X : Type 0} where
  pub parts-whole : (xs : List X) (start end' : ℕ) → start ≤ end'
      → xs ≡ take start xs ++ (drop start (take end' xs) ++ drop end' xs)
  parts-whole xs start end' l =
      sym (take-append-drop end' xs)
      ∙ ap (λ ys. ys ++ drop end' xs) (sym (take-append-drop start (take end' xs))
      ∙ ap (λ ys. ys ++ drop start (take end' xs)) (take-take start end' xs l))
      ∙ append_assoc (take start xs) (drop start (take end' xs)) (drop end' xs)

  insert-left : (xs ys : List X) (i : ℕ) (x : X) → insert (xs ++ ys) (length xs + i) x ≡ xs ++ insert ys i x
  insert-left [] ys i x = let n : 0 + i ≡ i = omega arith in ap (λ m. insert ys m x) n
  insert-left (y ∷ xs) ys i x =
      let n : suc (length xs) + i ≡ suc (length xs + i) = omega arith in
      ap (λ m. insert (y ∷ (xs ++ ys)) m x) n ∙ ap (λ zs. y ∷ zs) (insert-left xs ys i x)

  insert-right : (xs ys : List X) (i : ℕ) (x : X) → i ≤ length xs → insert (xs ++ ys) i x ≡ insert xs i x ++ ys
  insert-right [] ys zero x l = refl
  insert-right [] ys (suc i) x l = absurd (omega arith)
  insert-right (y ∷ xs) ys zero x l = refl
  insert-right (y ∷ xs) ys (suc i) x l = ap (λ zs. y ∷ zs) (insert-right xs ys i x (omega arith))

  remove-left : (xs ys : List X) (i : ℕ) → remove (xs ++ ys) (length xs + i) ≡ xs ++ remove ys i
  remove-left [] ys i = let n : 0 + i ≡ i = omega arith in ap (remove ys) n
  remove-left (y ∷ xs) ys i =
      let n : suc (length xs) + i ≡ suc (length xs + i) = omega arith in
      ap (remove (y ∷ (xs ++ ys))) n ∙ ap (λ zs. y ∷ zs) (remove-left xs ys i)

  remove-right : (xs ys : List X) (i : ℕ) → i < length xs → remove (xs ++ ys) i ≡ remove xs i ++ ys
  remove-right [] ys i l = absurd (omega arith)
  remove-right (y ∷ xs) ys zero l = refl
  remove-right (y ∷ xs) ys (suc i) l = ap (λ zs. y ∷ zs) (remove-right xs ys i (omega arith))

  pub length-insert : (xs : List X) (i : ℕ) (x : X) → length (insert xs i x) ≡ length xs + 1
  length-insert [] zero x = refl
  length-insert [] (suc i) x = refl
  length-insert (y ∷ xs) zero x = omega arith
  length-insert (y ∷ xs) (suc i) x = let l = length-insert xs i x in omega arith

  pub length-remove : (xs : List X) (i : ℕ) → i < length xs → length (remove xs i) + 1 ≡ length xs
  length-remove [] i l = absurd (omega arith)
  length-remove (y ∷ xs) zero l = omega arith
  length-remove (y ∷ xs) (suc i) l = let m = length-remove xs i (omega arith) in omega arith

  take-insert : (xs : List X) (n i : ℕ) (x : X) → n ≤ i → i ≤ length xs → take n (insert xs i x) ≡ take n xs
  take-insert xs zero i x l m = refl
  take-insert [] (suc n) zero x l m = absurd (omega arith)
  take-insert [] (suc n) (suc i) x l m = absurd (omega arith)
  take-insert (y ∷ xs) (suc n) zero x l m = absurd (omega arith)
  take-insert (y ∷ xs) (suc n) (suc i) x l m = ap (λ zs. y ∷ zs) (take-insert xs n i x (omega arith) (omega arith))

  drop-insert : (xs : List X) (n i : ℕ) (x : X) → i ≤ n → i ≤ length xs → drop (suc n) (insert xs i x) ≡ drop n xs
  drop-insert xs n zero x l m = refl
  drop-insert [] n (suc i) x l m = absurd (omega arith)
  drop-insert (y ∷ xs) zero (suc i) x l m = absurd (omega arith)
  drop-insert (y ∷ xs) (suc n) (suc i) x l m = drop-insert xs n i x (omega arith) (omega arith)

  take-remove : (xs : List X) (n i : ℕ) → n ≤ i → take n (remove xs i) ≡ take n xs
  take-remove xs zero i l = refl
  take-remove [] (suc n) zero l = refl
  take-remove [] (suc n) (suc i) l = refl
  take-remove (y ∷ xs) (suc n) zero l = absurd (omega arith)
  take-remove (y ∷ xs) (suc n) (suc i) l = ap (λ zs. y ∷ zs) (take-remove xs n i (omega arith))

  drop-remove : (xs : List X) (n i : ℕ) → i ≤ n → drop n (remove xs i) ≡ drop (suc n) xs
  drop-remove [] zero zero l = refl
  drop-remove [] zero (suc i) l = refl
  drop-remove [] (suc n) zero l = refl
  drop-remove [] (suc n) (suc i) l = refl
  drop-remove (y ∷ xs) n zero l = refl
  drop-remove (y ∷ xs) zero (suc i) l = absurd (omega arith)
  drop-remove (y ∷ xs) (suc n) (suc i) l = drop-remove xs n i (omega arith)

  length-part : (xs : List X) (start end' : ℕ) → start ≤ end' → end' ≤ length xs
      → start + length (drop start (take end' xs)) ≡ end'
  length-part xs start end' l m =
      let a = length-drop start (take end' xs) in let b = length-take-le end' xs m in omega arith

  drop-parts : (xs : List X) (start end' : ℕ) → start ≤ end' → drop start (take end' xs) ++ drop end' xs ≡ drop start xs
  drop-parts xs zero end' l = take-append-drop end' xs
  drop-parts xs (suc n) zero l = absurd (omega arith)
  drop-parts [] (suc n) (suc end') l = refl
  drop-parts (x ∷ xs) (suc n) (suc end') l = drop-parts xs n end' (omega arith)

  part-at : (xs : List X) (i : ℕ) (d : X) → i < length xs → xs ≡ take i xs ++ get_or xs i d ∷ drop (suc i) xs
  part-at [] i d l = absurd (omega arith)
  part-at (x ∷ xs) zero d l = refl
  part-at (x ∷ xs) (suc i) d l = ap (λ ys. x ∷ ys) (part-at xs i d (omega arith))

-- ---- in scene order the keys never fall
up-to : (a b : Option (List ℕ)) (id other : List ℕ) → place_less a id b other ≡ true → is_up_to a b ≡ true
up-to None None id other h = refl
up-to None (Some b) id other h = cc
up-to (Some a) None id other h = refl
up-to (Some a) (Some b) id other h = ap not (elim (or_cases (bytes_less a b) (bytes_eq a b && bytes_less id other) h) [
  | inl less ↦ less-order.one_way a b less
  | inr tied ↦
      let same : a ≡ b = (bytes_eq-Decides a b).0 (and_parts (bytes_eq a b) (bytes_less id other) tied).0 in
      subst (λ (k : List ℕ). bytes_less k a ≡ false) same (not-itself a (bytes_less a a) refl)
])
  where
    less-order : IsStrictWeakOrder bytes_less
    less-order = ranks_by nat_list_cmp_total (λ a. a)

    not-itself : (k : List ℕ) (b : Bool) → bytes_less k k ≡ b → bytes_less k k ≡ false
    not-itself k true is = less-order.one_way k k is
    not-itself k false is = is

pub never-falls : (es : List ElementValue) → AreInSceneOrder es → NeverFall (map index_of es)
never-falls [] h i j d l m = absurd (omega arith)
never-falls (e ∷ es) h i j d l m =
    let n : length (map index_of (e ∷ es)) ≡ length (e ∷ es) = length-map (e ∷ es) index_of in
    let at' : (k : ℕ) → k < length (map index_of (e ∷ es))
    → get_or (map index_of (e ∷ es)) k d ≡ (get_or (e ∷ es) k e).index =
    λ k less. get_or_default (map index_of (e ∷ es)) k d e.index less ∙ get_or-map index_of (e ∷ es) k e in
    let a = get_or (e ∷ es) i e in
    let b = get_or (e ∷ es) j e in
    subst₂ (λ x y. is_up_to x y ≡ true) (sym (at' i (omega (arith, l, m)))) (sym (at' j m))
    (up-to a.index b.index a.id b.id (h i j e l (omega (arith, m, n))))

-- ---- a list may be cut where its keys rise
none-cut : (ys : List (Option (List ℕ))) → is_cut [] ys ≡ true
none-cut [] = refl
none-cut (None ∷ ys) = refl
none-cut (Some key ∷ ys) = refl

pub cut-first : (xs ys : List (Option (List ℕ))) (key : List ℕ) → are_below (Some key) xs ≡ true
    → first_of ys ≡ Some key → is_cut xs ys ≡ true
cut-first xs [] key below first = cc
cut-first xs (None ∷ ys) key below first = cc
cut-first [] (Some k ∷ ys) key below first = refl
cut-first (x ∷ xs) (Some k ∷ ys) key below first =
    let same : k ≡ key = same_Some k key first in ap (λ n. are_below (Some n) (x ∷ xs)) same ∙ below

cut-rises : (xs ys : List (Option (List ℕ))) (first : Option (List ℕ)) → NeverFall xs
    → key_rises (last_of xs) first ≡ true → first_of ys ≡ first → is_cut xs ys ≡ true
cut-rises xs ys (Some key) never rises is = cut-first xs ys key (rises-below xs key never rises) is
cut-rises xs ys None never rises is = by (last_of xs) rises where
  by : (o : Option (List ℕ)) → key_rises o None ≡ true → is_cut xs ys ≡ true
  by None h = cc
  by (Some k) h = cc

never-taken : (xs : List (Option (List ℕ))) (n : ℕ) → NeverFall xs → NeverFall (take n xs)
never-taken xs n never i j d l m =
    let short = length-take n xs in
    subst₂ (λ x y. is_up_to x y ≡ true) (sym (get_or-take n xs i d (omega (arith, l, m, short))))
    (sym (get_or-take n xs j d (omega (arith, m, short))))
    (never i j d l (omega (arith, m, short)))

module _ (keys : List (Option (List ℕ))) (place start : ℕ) (never : NeverFall keys)
    (begins : IsRunStart keys place start) where
  -- a part behind the start that begins with the key there
  cut-start : (ys : List (Option (List ℕ))) → (0 < start → first_of ys ≡ first_of (drop start keys))
      → is_cut (take start keys) ys ≡ true
  cut-start ys first = by start refl where
    by : (n : ℕ) → n ≡ start → is_cut (take start keys) ys ≡ true
    by zero is = subst (λ n. is_cut (take n keys) ys ≡ true) is (none-cut ys)
    by (suc n) is =
        let more : 0 < start = omega arith in
        cut-rises (take start keys) ys (first_of (drop start keys)) (never-taken keys start never)
        (begins.rises (omega arith)).1 (first more)

  same-before : (f g : Option (List ℕ)) → (0 < start → f ≡ g)
      → repaired_below f (take start keys) ≡ repaired_below g (take start keys)
  same-before f g same = by start refl where
    by : (n : ℕ) → n ≡ start → repaired_below f (take start keys) ≡ repaired_below g (take start keys)
    by zero is = subst (λ n. repaired_below f (take n keys) ≡ repaired_below g (take n keys)) is (none-repaired f
        ∙ sym (none-repaired g))
    by (suc n) is = ap (λ k. repaired_below k (take start keys)) (same (omega arith))

first-insert : (xs ys : List (Option (List ℕ))) (i : ℕ) (x : Option (List ℕ)) → 0 < i → i ≤ length xs
    → first_of (insert xs i x ++ ys) ≡ first_of (xs ++ ys)
first-insert xs ys zero x h l = absurd (omega arith)
first-insert [] ys (suc i) x h l = absurd (omega arith)
first-insert (k ∷ xs) ys (suc i) x h l = refl

first-remove : (xs ys : List (Option (List ℕ))) (i : ℕ) → 0 < i → i < length xs
    → first_of (remove xs i ++ ys) ≡ first_of (xs ++ ys)
first-remove xs ys zero h l = absurd (omega arith)
first-remove [] ys (suc i) h l = absurd (omega arith)
first-remove (k ∷ xs) ys (suc i) h l = refl

-- ---- the keys of a list with one more
pub record AreExchanged (keys : List (Option (List ℕ))) (after : List (Option (List ℕ))) (start : ℕ)
    (new : List (List ℕ)) (end' : ℕ) : Type 0 where
  pub within : end' ≤ length keys
  pub exact : repaired after ≡ take start (repaired keys) ++ (new ++ drop end' (repaired keys))

module _ (keys : List (Option (List ℕ))) (place start : ℕ) (new : List (List ℕ)) (never : NeverFall keys)
    (all : list_all is_key_or_none keys ≡ true) where
  all-from : (n : ℕ) → list_all is_key_or_none (drop n keys) ≡ true
  all-from n =
      (split-all is_key_or_none (take n keys) (drop n keys)
      (subst (λ ks. list_all is_key_or_none ks ≡ true) (sym (take-append-drop n keys)) all)).1

  -- the keys from the start to an end are others
  exchanged-part : (e : ℕ) (part after : List (Option (List ℕ))) → IsRunStart keys place start → start ≤ e
      → e ≤ length keys → after ≡ take start keys ++ (part ++ drop e keys)
      → (0 < start → first_of (part ++ drop e keys) ≡ first_of (part_of keys start e ++ drop e keys))
      → is_cut (part_of keys start e) (drop e keys) ≡ true → is_cut part (drop e keys) ≡ true
      → list_all is_key_or_none part ≡ true → new ≡ repaired_below (first_of (drop e keys)) part
      → AreExchanged keys after start new e × (length new ≡ length part)
  exchanged-part e part after begins up within to same cut next part_all exact =
      let P = take start keys in
      let W = part_of keys start e in
      let Q = drop e keys in
      let R = repaired keys in
      let whole : keys ≡ P ++ (W ++ Q) = parts-whole keys start e up in
      let length_P : length P ≡ start = length-take-le start keys (omega (arith, up, within)) in
      let length_W : start + length W ≡ e = length-part keys start e up within in
      let end_is : length P + length W ≡ e = omega (arith, length_P, length_W) in
      let behind : first_of (W ++ Q) ≡ first_of (drop start keys) = ap first_of (drop-parts keys start e up) in
      let exchanged =
      part-exchanged P W part Q (subst (λ ks. list_all is_key_or_none ks ≡ true) whole all)
      (cut-start keys place start never begins (W ++ Q) (λ more. behind))
      (cut-start keys place start never begins (part ++ Q) (λ more. same more ∙ behind))
      cut next (same-before keys place start never begins (first_of (part ++ Q)) (first_of (W ++ Q)) same) in (
        record {
          within = within;
          exact =
              ap repaired to ∙ exchanged
              ∙ ap (λ ks. take (length P) (repaired ks)
              ++ (repaired_below (first_of Q) part ++ drop (length P + length W) (repaired ks))) (sym whole)
              ∙ ap₂ (λ m n. take m R ++ (repaired_below (first_of Q) part ++ drop n R)) length_P end_is
              ∙ ap (λ ks. take start R ++ (ks ++ drop e R)) (sym exact);
        },
        ap length exact ∙ cut-count part Q next (list_all-append is_key_or_none part Q
            ∙ and_from (list_all is_key_or_none part) (list_all is_key_or_none Q) part_all (all-from e)),
      )

  pub exchanged-with : (key : Option (List ℕ)) → place ≤ length keys → (are : AreKeysWith keys key place start new)
      → AreExchanged keys (insert keys place key) start new are.end' × (start + length new ≡ suc are.end')
  exchanged-with key short are =
      let e = are.end' in
      let P = take start keys in
      let W = part_of keys start e in
      let Q = drop e keys in
      let j = place - start in
      let before : start ≤ place = are.begins.before in
      let up : start ≤ e = omega (arith, before, are.behind) in
      let length_W : start + length W ≡ e = length-part keys start e up are.within in
      let j_in : j ≤ length W = omega (arith, before, are.behind, length_W) in
      let at_place : place ≡ length P + j =
      omega (arith, length-take-le start keys (omega (arith, up, are.within)), before) in
      let is = exchanged-part e (insert W j key) (insert keys place key) are.begins up are.within
      (ap (λ ks. insert ks place key) (parts-whole keys start e up) ∙ ap (λ n. insert (P ++ (W ++ Q)) n key) at_place
      ∙ insert-left P (W ++ Q) j key ∙ ap (λ ks. P ++ ks) (insert-right W Q j key j_in))
      (λ more. let inner = (are.begins.rises (omega (arith, more))).0 in
      first-insert W Q j key (omega (arith, inner)) j_in)
      (subst (λ ks. is_cut ks Q ≡ true) (take-append-drop j W)
      (cut-without (take j W) key (drop j W) Q are.repaired.cut))
      are.repaired.cut are.repaired.are_keys are.repaired.exact in
      (is.0, omega (arith, is.1, length-insert W j key, length_W))

  pub exchanged-without : place < length keys → (are : AreKeysWithout keys place start new)
      → AreExchanged keys (remove keys place) start new are.end' × (start + length new + 1 ≡ are.end')
  exchanged-without short are =
      let e = are.end' in
      let P = take start keys in
      let W = part_of keys start e in
      let Q = drop e keys in
      let j = place - start in
      let before : start ≤ place = are.begins.before in
      let up : start ≤ e = omega (arith, before, are.behind) in
      let whole : keys ≡ P ++ (W ++ Q) = parts-whole keys start e up in
      let length_W : start + length W ≡ e = length-part keys start e up are.within in
      let j_in : j < length W = omega (arith, before, are.behind, length_W) in
      let at_place : place ≡ length P + j =
      omega (arith, length-take-le start keys (omega (arith, up, are.within)), before) in
      let key = get_or W j None in
      let split : W ≡ take j W ++ key ∷ drop (suc j) W = part-at W j None j_in in
      let part_all : list_all is_key_or_none W ≡ true =
      (split-all is_key_or_none W Q (split-all is_key_or_none P (W ++ Q)
      (subst (λ ks. list_all is_key_or_none ks ≡ true) whole all)).1).0 in
      let is = exchanged-part e (remove W j) (remove keys place) are.begins up are.within
      (ap (λ ks. remove ks place) whole ∙ ap (λ n. remove (P ++ (W ++ Q)) n) at_place
      ∙ remove-left P (W ++ Q) j ∙ ap (λ ks. P ++ ks) (remove-right W Q j j_in))
      (λ more. let inner = (are.begins.rises (omega (arith, more))).0 in
      first-remove W Q j (omega (arith, inner)) j_in)
      are.cut
      (cut-without (take j W) key (drop (suc j) W) Q (subst (λ ks. is_cut ks Q ≡ true) split are.cut))
      (all-without is_key_or_none (take j W) key (drop (suc j) W)
      (subst (λ ks. list_all is_key_or_none ks ≡ true) split part_all)) are.exact in
      (is.0, omega (arith, is.1, length-remove W j j_in, length_W))

-- ---- the indices of shown elements with one more, or without one, once the keys around it are set
pub map-take : {X Y : Type 0} (f : X → Y) (n : ℕ) (xs : List X) → take n (map f xs) ≡ map f (take n xs)
map-take f zero xs = refl
map-take f (suc n) [] = refl
map-take f (suc n) (x ∷ xs) = ap (λ ys. f x ∷ ys) (map-take f n xs)

pub map-drop : {X Y : Type 0} (f : X → Y) (n : ℕ) (xs : List X) → drop n (map f xs) ≡ map f (drop n xs)
map-drop f zero xs = refl
map-drop f (suc n) [] = refl
map-drop f (suc n) (x ∷ xs) = map-drop f n xs

joined-keys : (R new : List (List ℕ)) (start end' : ℕ)
    → take start (map Some R) ++ (map Some new ++ drop end' (map Some R))
    ≡ map Some (take start R ++ (new ++ drop end' R))
joined-keys R new start end' =
    ap₂ (λ xs ys. xs ++ (map Some new ++ ys)) (map-take Some start R) (map-drop Some end' R)
    ∙ ap (λ xs. map Some (take start R) ++ xs) (sym (map-append Some new (drop end' R)))
    ∙ sym (map-append Some (take start R) (new ++ drop end' R))

module _ (keys : List (Option (List ℕ))) (place start : ℕ) (new : List (List ℕ)) (never : NeverFall keys)
    (all : list_all is_key_or_none keys ≡ true)
    (drawn : List ElementValue) (count : length drawn ≡ length keys) (indices : map index_of drawn
    ≡ map Some (repaired keys)) where
  pub indices-with : (key : Option (List ℕ)) (own : ElementValue) → place ≤ length keys
      → AreKeysWith keys key place start new
      → map index_of (rekeyed start new (insert drawn place own)) ≡ map Some (repaired (insert keys place key))
  indices-with key own short are =
      let is = exchanged-with keys place start new never all key short are in
      let e = are.end' in
      let n = length-map drawn index_of in
      let L = map index_of drawn in
      indices-rekeyed start new (insert drawn place own)
      (omega (arith, is.1, are.within, count, length-insert drawn place own))
      ∙ ap₂ (λ xs m. take start xs ++ (map Some new ++ drop m xs)) (map-insert index_of drawn place own) is.1
      ∙ ap₂ (λ xs ys. xs ++ (map Some new ++ ys))
      (take-insert L start place own.index are.begins.before (omega (arith, short, count, n)))
      (drop-insert L e place own.index are.behind (omega (arith, short, count, n)))
      ∙ ap (λ xs. take start xs ++ (map Some new ++ drop e xs)) indices
      ∙ joined-keys (repaired keys) new start e
      ∙ ap (map Some) (sym is.0.exact)

  pub indices-without : place < length keys → AreKeysWithout keys place start new
      → map index_of (rekeyed start new (remove drawn place)) ≡ map Some (repaired (remove keys place))
  indices-without short are =
      let is = exchanged-without keys place start new never all short are in
      let e = are.end' in
      let L = map index_of drawn in
      indices-rekeyed start new (remove drawn place)
      (omega (arith, is.1, are.within, count, length-remove drawn place (omega (arith, short, count))))
      ∙ ap (λ xs. take start xs ++ (map Some new ++ drop (start + length new) xs)) (map-remove index_of drawn place)
      ∙ ap₂ (λ xs ys. xs ++ (map Some new ++ ys))
      (take-remove L start place are.begins.before)
      (drop-remove L (start + length new) place (omega (arith, is.1, are.behind))
      ∙ ap (λ m. drop m L) (let m : suc (start + length new) ≡ e = omega (arith, is.1) in m))
      ∙ ap (λ xs. take start xs ++ (map Some new ++ drop e xs)) indices
      ∙ joined-keys (repaired keys) new start e
      ∙ ap (map Some) (sym is.0.exact)

-- ---- one key more is set
pub rekeyed-push : (start : ℕ) (keys : List (List ℕ)) (key : List ℕ) (es : List ElementValue) (i : ℕ)
    → i ≡ start + length keys
    → rekeyed i (key ∷ []) (rekeyed start keys es) ≡ rekeyed start (keys ++ key ∷ []) es
rekeyed-push start keys key es i at' =
    ap (λ n. rekeyed n (key ∷ []) (rekeyed start keys es)) at' ∙ by start keys es where
      nothing : (n : ℕ) (ks : List (List ℕ)) → rekeyed n ks [] ≡ []
      nothing zero ks = refl
      nothing (suc n) ks = refl

      none : (n : ℕ) (es : List ElementValue) → rekeyed n [] es ≡ es
      none zero [] = refl
      none zero (e ∷ es) = refl
      none (suc n) [] = refl
      none (suc n) (e ∷ es) = ap (λ xs. e ∷ xs) (none n es)

      by : (s : ℕ) (ks : List (List ℕ)) (fs : List ElementValue) → rekeyed (s + length ks) (key ∷ []) (rekeyed s ks fs)
          ≡ rekeyed s (ks ++ key ∷ []) fs
      by zero [] [] = refl
      by zero [] (f ∷ fs) = refl
      by zero (k ∷ ks) [] = nothing (0 + length (k ∷ ks)) (key ∷ [])
      by zero (k ∷ ks) (f ∷ fs) = ap (λ n. rekeyed n (key ∷ []) (rekeyed zero (k ∷ ks) (f ∷ fs)))
          (let n : 0 + length (k ∷ ks) ≡ suc (length ks) = omega arith in n)
          ∙ ap (λ xs. with_index f k ∷ xs) (ap (λ n. rekeyed n (key ∷ []) (rekeyed zero ks fs)) (let n : length ks
          ≡ 0 + length ks = omega arith in n) ∙ by zero ks fs)
      by (suc s) ks [] = ap (λ n. rekeyed n (key ∷ []) (rekeyed (suc s) ks [])) (let n : suc s + length ks
          ≡ suc (s + length ks) = omega arith in n)
      by (suc s) ks (f ∷ fs) = ap (λ n. rekeyed n (key ∷ []) (rekeyed (suc s) ks (f ∷ fs))) (let n : suc s + length ks
          ≡ suc (s + length ks) = omega arith in n) ∙ ap (λ xs. f ∷ xs) (by s ks fs)

pub length-rekeyed : (start : ℕ) (keys : List (List ℕ)) (es : List ElementValue)
    → length (rekeyed start keys es) ≡ length es
length-rekeyed start keys es = sym (length-map (rekeyed start keys es) (λ (e : ElementValue). e.id))
    ∙ ap length (ids-rekeyed start keys es) ∙ length-map es (λ (e : ElementValue). e.id)

-- the key of one element is set
pub set-rekeyed : (es : List ElementValue) (i : ℕ) (x : ElementValue) (key : List ℕ) → x ≡ get_or es i x → i < length es
    → set es i (with_index x key) ≡ rekeyed i (key ∷ []) es
set-rekeyed [] i x key is l = absurd (omega arith)
set-rekeyed (e ∷ es) zero x key is l = ap (λ (y : ElementValue). with_index y key ∷ es) is ∙ none key es where
  none : (key : List ℕ) (es : List ElementValue) → with_index e key ∷ es ≡ with_index e key ∷ rekeyed zero [] es
  none key [] = refl
  none key (f ∷ es) = refl
set-rekeyed (e ∷ es) (suc i) x key is l = ap (λ xs. e ∷ xs) (set-rekeyed es i x key is (omega arith))

-- ---- the keys that are set fit
pub fits-with : (keys : List (Option (List ℕ))) (place start : ℕ) (new : List (List ℕ)) → NeverFall keys
    → list_all is_key_or_none keys ≡ true → (key : Option (List ℕ)) → place ≤ length keys
    → AreKeysWith keys key place start new → start + length new ≤ length keys + 1
fits-with keys place start new never all key short are =
    let is = exchanged-with keys place start new never all key short are in
    omega (arith, is.1, are.within)

pub fits-without : (keys : List (Option (List ℕ))) (place start : ℕ) (new : List (List ℕ)) → NeverFall keys
    → list_all is_key_or_none keys ≡ true → place < length keys
    → AreKeysWithout keys place start new → start + length new + 1 ≤ length keys
fits-without keys place start new never all short are =
    let is = exchanged-without keys place start new never all short are in
    omega (arith, is.1, are.within)

pub rekeyed_none : (start : ℕ) (es : List ElementValue) → rekeyed start [] es ≡ es
rekeyed_none zero [] = refl
rekeyed_none zero (e ∷ es) = refl
rekeyed_none (suc start) [] = refl
rekeyed_none (suc start) (e ∷ es) = ap (λ xs. e ∷ xs) (rekeyed_none start es)
