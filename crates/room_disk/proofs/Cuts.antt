-- A first part of texts that are each ended by a line feed: its lines are the first of them.
use Rattle.std.proofs.Common.{◌≡◌, ℕ, nat_le, zero, suc, ◌<◌, ◌≤◌, List, [], ◌∷◌, ◌++◌, length, take, map, refl, sym, ap, ap₂, ◌∙◌, inl, inr, arith, append_assoc, length-append}
use Rattle.std.specs.List.{AllByRecursion, list_all}
use Rattle.std.proofs.lemmas.Bool.{and_parts, cases_Bool}
use Rattle.std.proofs.lemmas.Bool.Decides.{nat_tests}
use Rattle.std.proofs.lemmas.List.Folds.{list_all-append}
use Rattle.input_texts.specs.Lines.{is_within_line, lines_behind, lines_of}
use Rattle.room_disk.specs.Records.{record_of, bytes_of}
use Rattle.input_texts.proofs.CallerLemmas.{NoFeed, lines-append, ended-lines, ended-begun, stretch-lines}

-- ---- two ways to cut bytes
pub split : (xs ys left lost : List ℕ) → xs ++ ys ≡ left ++ lost → length xs ≤ length left → (mid : List ℕ)
    × (left ≡ xs ++ mid) × (ys ≡ mid ++ lost)
split [] ys left lost e h = (left, refl, e)
split (x ∷ xs) ys [] lost e h = absurd (omega arith)
split (x ∷ xs) ys (l ∷ left) lost e h =
    let tail : xs ++ ys ≡ left ++ lost = cc in
    let head : l ≡ x = cc in
    let r = split xs ys left lost tail (omega arith) in
    (r.0, ap₂ (λ y ws. y ∷ ws) head r.1, r.2)

front-none : (t left mid : List ℕ) → NoFeed t → t ≡ left ++ mid → NoFeed left
front-none t left mid none e =
    (and_parts (list_all is_within_line left) (list_all is_within_line mid)
    (sym (list_all-append is_within_line left mid) ∙ (ap (list_all is_within_line) (sym e) ∙ none))).0

-- a first part of a record that isn't whole has no line
pub unended : (t left lost : List ℕ) → NoFeed t → t ++ 10 ∷ [] ≡ left ++ lost → length left ≤ length t
    → lines_of left ≡ []
unended t left lost none e short =
    let r = split left lost t (10 ∷ []) (sym e) short in stretch-lines [] left (front-none t left r.0 none r.1)

-- ---- what is whole of a first part
pub record IsCut (texts : List (List ℕ)) (left : List ℕ) : Type 0 where
  pub count : ℕ
  pub within : count ≤ length texts
  pub lines : lines_of left ≡ map record_of (take count texts)
  pub all : (more : ℕ) → more ≤ length texts → length (bytes_of (take more (map record_of texts))) ≤ length left
      → more ≤ count

no-more : (t : List ℕ) (texts : List (List ℕ)) (left : List ℕ) (more : ℕ) → length left ≤ length t
    → length (bytes_of (take more (map record_of (t ∷ texts)))) ≤ length left → more ≤ 0
no-more t texts left zero short h = omega arith
no-more t texts left (suc more) short h =
    absurd (omega (
      arith,
      h,
      length-append (t ++ 10 ∷ []) (bytes_of (take more (map record_of texts))),
      length-append t (10 ∷ []),
    ))

none-whole : (t : List ℕ) (texts : List (List ℕ)) (left mid : List ℕ) → NoFeed t → t ≡ left ++ mid
    → IsCut (t ∷ texts) left
none-whole t texts left mid none e = record {
  count = 0;
  within = omega arith;
  lines = stretch-lines [] left (front-none t left mid none e);
  all = λ more _ h. no-more t texts left more (omega (arith, ap length e, length-append left mid)) h;
}

one-more : (t : List ℕ) (texts : List (List ℕ)) (left mid : List ℕ) → NoFeed t → left ≡ (t ++ 10 ∷ []) ++ mid
    → IsCut texts mid → IsCut (t ∷ texts) left
one-more t texts left mid none e cut = record {
  count = suc cut.count;
  within = omega (arith, cut.within);
  lines = ap lines_of e ∙ (lines-append [] (t ++ 10 ∷ []) mid
      ∙ ap₂ (λ ls begun. ls ++ lines_behind begun mid) (ended-lines [] t none) (ended-begun [] t none)
      ∙ ap (λ ls. (t ++ 10 ∷ []) ∷ ls) cut.lines);
  all = all;
}
  where
    all : (more : ℕ) → more ≤ length (t ∷ texts)
        → length (bytes_of (take more (map record_of (t ∷ texts)))) ≤ length left → more ≤ suc cut.count
    all zero within h = omega arith
    all (suc more) within h =
        let long = cut.all more (omega arith)
        (omega (
          arith,
          h,
          ap length e,
          length-append (t ++ 10 ∷ []) mid,
          length-append (t ++ 10 ∷ []) (bytes_of (take more (map record_of texts))),
        )) in
        omega (arith, long)

pub cut : (texts : List (List ℕ)) (left lost : List ℕ) → AllByRecursion NoFeed texts
    → bytes_of (map record_of texts) ≡ left ++ lost → IsCut texts left
cut [] [] lost none e = record { count = 0; within = omega arith; lines = refl; all = λ more within _. within }
cut [] (b ∷ left) lost none e = absurd (let no : [] ≡ b ∷ (left ++ lost) = e in cc)
cut (t ∷ texts) left lost none e = elim (cases_Bool (nat_le (length left) (length t))) [
  | inl short ↦
      let less : length left ≤ length t = grind (arith, nat_tests) in
      let ends : t ++ (10 ∷ bytes_of (map record_of texts)) ≡ left ++ lost =
      sym (append_assoc t (10 ∷ []) (bytes_of (map record_of texts))) ∙ e in
      let r = split left lost t (10 ∷ bytes_of (map record_of texts)) (sym ends) less in
      none-whole t texts left r.0 none.0 r.1
  | inr long ↦
      let more : length (t ++ 10 ∷ []) ≤ length left = (let less : length t < length left = grind (arith, nat_tests) in
      omega (arith, less, length-append t (10 ∷ []))) in
      let r = split (t ++ 10 ∷ []) (bytes_of (map record_of texts)) left lost e more in
      one-more t texts left r.0 none.0 r.1 (cut texts r.0 lost none.1 r.2)
]
