-- White space, and what is left behind it.
use Rattle.std.proofs.Common.{◌≡◌, inl, inr, ℕ, ◌+◌, ◌<◌, List, [], ◌∷◌, ◌++◌, true, false, refl, sym, ap, ◌∙◌, length, arith}
use Rattle.std.specs.List.{prefix_len}
use Rattle.std.proofs.lemmas.Bool.{both_ways, false_from_ne_true, and_parts, cases_Bool}
use Rattle.std.proofs.lemmas.List.Folds.{list_all-append}
use Rattle.json_text.specs.Characters.{is_blank, is_space}
use Rattle.json_text.specs.Value.{Stands}
use Rattle.json_text.proofs.CallerLemmas.{tree-Head, begins-no-space}

-- white space before the rest is white space
blank-front : (xs ys : List ℕ) → is_blank (xs ++ ys) ≡ true → (is_blank xs ≡ true) × (is_blank ys ≡ true)
blank-front xs ys all = and_parts (is_blank xs) (is_blank ys) (sym (list_all-append is_space xs ys) ∙ all)

-- what isn't white space alone isn't so with more behind it
pub blank-more : (xs ys : List ℕ) → is_blank xs ≡ false → is_blank (xs ++ ys) ≡ false
blank-more xs ys some =
    false_from_ne_true (is_blank (xs ++ ys)) (λ all. both_ways (is_blank xs) some (blank-front xs ys all).0)

-- white space twice
pub blank-both : (xs ys : List ℕ) → is_blank xs ≡ true → is_blank ys ≡ true → is_blank (xs ++ ys) ≡ true
blank-both xs ys first next = list_all-append is_space xs ys ∙ rw (first, next) refl

-- where a value stands more than white space is left
pub stands-begun : (bytes text rest : List ℕ) → Stands bytes text rest → is_blank bytes ≡ false
stands-begun bytes text rest s = false_from_ne_true (is_blank bytes) (λ all.
    let head = tree-Head s.reads.tree s.reads.good in
    let behind = (blank-front s.blank (s.value ++ rest) (ap is_blank (sym s.parts) ∙ all)).1 in
    let value = (blank-front s.value rest behind).0 in
    let first : is_blank (head.first ∷ head.more) ≡ true = ap is_blank (sym head.parts ∙ s.reads.spells) ∙ value in
    both_ways (is_space head.first) (begins-no-space head.first head.begins)
    (and_parts (is_space head.first) (is_blank head.more) first).0)

-- the first further byte stands where it stood, whatever follows
pub first-more : (xs ys : List ℕ) → prefix_len is_space xs < length xs
    → prefix_len is_space (xs ++ ys) ≡ prefix_len is_space xs
first-more [] ys less = absurd (omega (arith, less))
first-more (b ∷ xs) ys less = elim (cases_Bool (is_space b)) [
  | inl e ↦ rw e (ap (λ n. 1 + n) (first-more xs ys (let more = rw e at less in omega (arith, more))))
  | inr e ↦ rw e refl
]
