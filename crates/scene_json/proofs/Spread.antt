-- How a pass over a text lays it out.
use Rattle.std.proofs.Common.{◌≡◌, ℕ, zero, suc, ◌+◌, ◌*◌, eqb, length, ◌<◌, List, [], ◌∷◌, ◌++◌, Bool, true, false, take, drop, flat_map, refl, sym, ap, ◌∙◌, append-nil, append_assoc, arith}
use Rattle.std.specs.List.{list_all, AllByRecursion, prefix_len}
use Rattle.std.specs.Char.{encode_utf8}
use Rattle.std.proofs.lemmas.List.{take-append-drop, nil_from_length, replicate-append-replicate}
use Rattle.std.proofs.lemmas.Bool.{eqb-true}
use Rattle.std.proofs.lemmas.Bool.Decides.{nat_tests}
use Rattle.json_text.specs.Characters.{is_space, is_hex, is_plain}
use Rattle.json_text.specs.Tree.{Piece, bare, letter, unit, IsPiece, piece_spelling, string_spelling, Container, array, object, opening, closing, Label, unnamed, named, IsLabel, label_spelling, Tree, scalar, text, empty, filled, Values, last, next, spelling, values_spelling, IsGood, AreGood}
use Rattle.json_text.specs.Walk.{outside, inside}
use Rattle.scene_json.specs.Layout.{line, label_laid_out, laid_out, values_laid_out}
use Rattle.scene_json.specs.Lines.{IsLaidOutSoFar, Standing, layout, layout_from}
use Rattle.json_text.proofs.CallerLemmas.{plain-bare, hex-plain, begins_value, begins-no-space, values-Front, regroup-last, is_part_of_literal, list_all-each, literal-plain}

-- plain characters of a string are copied
run-steps : (xs : List ℕ) (first : Bool) (spaces : ℕ) (bs : List ℕ) → list_all is_plain xs ≡ true
    → layout (inside false) first spaces (xs ++ bs) ≡ xs ++ layout (inside false) first spaces bs
run-steps [] first spaces bs h = refl
run-steps (x ∷ xs) first spaces bs h = grind (arith, nat_tests, run-steps xs first spaces bs)

pub run_plain : (bs : List ℕ) (n : ℕ) → n ≡ 0 + prefix_len is_plain bs → list_all is_plain (take n bs) ≡ true
run_plain bs zero e = refl
run_plain [] (suc n) e = refl
run_plain (x ∷ xs) (suc n) e = grind (arith, run_plain xs n)

-- a part of a text of plain characters is copied, and the layout goes on behind it
pub run_from : (s : Standing) (n : ℕ) (bytes behind more was copied : List ℕ) → list_all is_plain (take n bytes) ≡ true
    → (0 < n → s.place ≡ inside false)
    → behind ≡ drop n bytes → copied ≡ was ++ take n bytes → copied ++ layout_from s (behind ++ more) ≡ was
    ++ layout_from s (bytes ++ more)
run_from s zero bytes behind more was copied plain quoted left copies = rw (left, copies, append-nil was) refl
run_from s (suc n) bytes behind more was copied plain quoted left copies =
    grind (
      arith,
      append_assoc,
      take-append-drop (suc n) bytes,
      run-steps (take (suc n) bytes) s.first s.spaces (behind ++ more) plain,
      quoted,
    )

plain-steps : (xs : List ℕ) (spaces : ℕ) (bs : List ℕ) → list_all is_part_of_literal xs ≡ true
    → layout outside false spaces (xs ++ bs) ≡ xs ++ layout outside false spaces bs
plain-steps [] spaces bs h = refl
plain-steps (x ∷ xs) spaces bs h = grind (arith, nat_tests, plain-steps xs spaces bs)

-- white space is left out
blank-steps : (xs : List ℕ) (first : Bool) (spaces : ℕ) (bs : List ℕ) → list_all is_space xs ≡ true
    → layout outside first spaces (xs ++ bs) ≡ layout outside first spaces bs
blank-steps [] first spaces bs h = refl
blank-steps (x ∷ xs) first spaces bs h = grind (arith, nat_tests, blank-steps xs first spaces bs)

piece-steps : (p : Piece) (spaces : ℕ) (bs : List ℕ) → IsPiece p
    → layout (inside false) false spaces (piece_spelling p ++ bs) ≡ piece_spelling p
    ++ layout (inside false) false spaces bs
piece-steps (bare c) spaces bs h = run-steps (encode_utf8 c) false spaces bs (plain-bare c h.2 h.3)
piece-steps (letter b) spaces bs h = grind (arith, nat_tests)
piece-steps (unit a b c d) spaces bs h =
    ap (λ x. 92 ∷ 117 ∷ x) (run-steps (a ∷ b ∷ c ∷ d ∷ []) false spaces bs
    (list_all-each is_hex is_plain hex-plain (a ∷ b ∷ c ∷ d ∷ []) h))

-- a string is copied
string-steps : (ps : List Piece) (spaces : ℕ) (bs : List ℕ) → AllByRecursion IsPiece ps →
    layout (inside false) false spaces (flat_map piece_spelling ps ++ 34 ∷ bs) ≡ flat_map piece_spelling ps ++ 34
    ∷ layout outside false spaces bs
string-steps [] spaces bs good = refl
string-steps (p ∷ ps) spaces bs good =
    simp append_assoc (grind (
      arith,
      piece-steps p spaces (flat_map piece_spelling ps ++ 34 ∷ bs),
      string-steps ps spaces bs,
    ))

opening-step : (c : Container) (spaces : ℕ) (bs : List ℕ) → layout outside false spaces (opening c ∷ bs) ≡ opening c
    ∷ layout outside true spaces bs
opening-step c spaces bs = grind arith

-- a label on its line
label-steps : (c : Container) (l : Label) (spaces : ℕ) (bs : List ℕ) → IsLabel c l
    → line spaces ++ layout outside false spaces (label_spelling l ++ bs) ≡ label_spelling (label_laid_out spaces l)
    ++ layout outside false spaces bs
label-steps array (unnamed before) spaces bs good = ap (λ x. line spaces ++ x) (blank-steps before false spaces bs good)
label-steps object (named before name between after) spaces bs good =
    let passed : layout outside false spaces (label_spelling (named before name between after) ++ bs)
    ≡ string_spelling name ++ (58 ∷ 32 ∷ layout outside false spaces bs) =
    simp append_assoc (grind (arith, blank-steps, string-steps)) in
    ap (λ x. line spaces ++ x) passed
    ∙ sym (regroup-last (line spaces) (string_spelling name) (58 ∷ 32 ∷ []) (layout outside false spaces bs))
label-steps c l spaces bs good = absurd good

-- behind an opening bracket a line begins there
first-step : (spaces b : ℕ) (bs : List ℕ) → begins_value b ≡ true
    → layout outside true spaces (b ∷ bs) ≡ line (spaces + 2) ++ layout outside false (spaces + 2) (b ∷ bs)
first-step spaces b bs begins = grind (arith, nat_tests, begins-no-space b begins, append_assoc (line (spaces + 2)))

values-line : (c : Container) (vs : Values) (spaces : ℕ) (bs : List ℕ) → AreGood c vs
    → layout outside true spaces (values_spelling vs ++ bs) ≡ line (spaces + 2)
    ++ layout outside false (spaces + 2) (values_spelling vs ++ bs)
values-line c vs spaces bs good =
    let f = values-Front c vs good in
    grind (arith, f.spells, f.follows.parts, append_assoc, blank-steps f.front, first-step spaces f.follows.first)

-- the pass lays out a value, and what follows as if it stood alone
mutual
  tree-steps : (t : Tree) (spaces : ℕ) (bs : List ℕ) → IsGood t → layout outside false spaces (spelling t ++ bs)
      ≡ spelling (laid_out spaces t) ++ layout outside false spaces bs
  tree-steps (scalar literal) spaces bs good = plain-steps literal spaces bs (literal-plain literal good)
  tree-steps (text pieces) spaces bs good = ap (λ x. 34 ∷ x) (simp append_assoc (string-steps pieces spaces bs good))
  tree-steps (empty c blank) spaces bs good =
      rw (opening-step c spaces) (simp append_assoc (grind (arith, blank-steps blank true spaces)))
  tree-steps (filled c values) spaces bs good =
      rw (opening-step c spaces) (simp append_assoc (grind (
        arith,
        values-line c values spaces,
        values-steps c values spaces,
      )))

  values-steps : (c : Container) (vs : Values) (spaces : ℕ) (bs : List ℕ) → AreGood c vs
      → line (spaces + 2) ++ layout outside false (spaces + 2) (values_spelling vs ++ closing c ∷ bs)
      ≡ values_spelling (values_laid_out spaces vs) ++ closing c ∷ layout outside false spaces bs
  values-steps c (last label value blank) spaces bs good =
      simp append_assoc (grind (
        arith,
        label-steps c label (spaces + 2),
        tree-steps value (spaces + 2),
        blank-steps,
        λ (b : ℕ). append_assoc (line spaces) (b ∷ []) (layout outside false spaces bs),
      ))
  values-steps c (next label value blank values) spaces bs good =
      simp append_assoc (grind (
        arith,
        label-steps c label (spaces + 2),
        tree-steps value (spaces + 2),
        blank-steps,
        values-steps c values,
      ))

pub laid_none : (s : Standing) → s ≡ record { place = outside; first = false; spaces = 0 } → IsLaidOutSoFar s [] []
laid_none s is = rw is (record {
  goes_on = λ tree rest good spells.
      sym (append-nil (spelling (laid_out 0 tree))) ∙ sym (tree-steps tree 0 [] good)
      ∙ ap (layout outside false 0) (append-nil (spelling tree) ∙ spells);
})

pub laid_on : (s after : Standing) (text piece was now rest : List ℕ) → true ≡ eqb (length rest) 0
    → ((more : List ℕ) → now ++ layout_from after (rest ++ more) ≡ was ++ layout_from s (piece ++ more))
    → IsLaidOutSoFar s text was → IsLaidOutSoFar after (text ++ piece) now
laid_on s after front piece was now rest none made so_far = record {
  goes_on = λ tree more good spells. so_far.goes_on tree (piece ++ more) good (spells ∙ append_assoc front piece more)
      ∙ sym (made more) ∙ ap (λ x. now ++ layout_from after (x ++ more))
      (nil_from_length rest (eqb-true _ 0 (sym none)));
}

-- two more spaces
pub line_more : (level : ℕ) (old out done : List ℕ) → out ≡ old ++ line (2 * level) → done ≡ out ++ 32 ∷ 32 ∷ []
    → done ≡ old ++ line (2 * (level + 1))
line_more level old out done before written =
    grind (arith, append_assoc, replicate-append-replicate {A = ℕ} (2 * level) 2 32)
