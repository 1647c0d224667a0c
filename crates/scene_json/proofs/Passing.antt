-- What a pass that counts brackets makes of the text of a value.
use Rattle.std.proofs.Common.{◌≡◌, ℕ, ◌+◌, ◌≤◌, max, List, [], ◌∷◌, ◌++◌, true, false, refl, append_assoc, arith}
use Rattle.std.specs.List.{list_all}
use Rattle.std.proofs.lemmas.Bool.Decides.{nat_tests}
use Rattle.json_text.specs.Characters.{is_space, is_inert}
use Rattle.json_text.specs.Tree.{Container, array, object, opening, closing, Label, unnamed, named, IsLabel, label_spelling, Tree, scalar, text, empty, filled, Values, last, next, spelling, values_spelling, IsGood, AreGood, depth, values_depth}
use Rattle.scene_json.specs.inner.Passes.{behind_string}
use Rattle.json_text.proofs.CallerLemmas.{is_part_of_literal, list_all-each, literal-plain}
use Rattle.scene_json.proofs.Behind.{pieces-behind}

-- What a pass makes of the text from here on depends on how many brackets are open and on the most that were so far.
pub record IsPass (X : Type 0) (f : ℕ → ℕ → List ℕ → X) : Type 0 where
  pub quotes : (level most : ℕ) (bs : List ℕ) → level ≤ most
      → f level most (34 ∷ bs) ≡ f level most (behind_string false bs)
  pub opens : (c : Container) (level most : ℕ) (bs : List ℕ)
      → f level most (opening c ∷ bs) ≡ f (level + 1) (max most (level + 1)) bs
  pub closes : (c : Container) (level most : ℕ) (bs : List ℕ) → level + 1 ≤ most
      → f (level + 1) most (closing c ∷ bs) ≡ f level most bs
  pub parts : (level most : ℕ) (bs : List ℕ) → level + 1 ≤ most → f (level + 1) most (44 ∷ bs) ≡ f (level + 1) most bs
  pub others : (b level most : ℕ) (bs : List ℕ) → is_inert b ≡ true → level ≤ most
      → f level most (b ∷ bs) ≡ f level most bs

module _ {X : Type 0} {f : ℕ → ℕ → List ℕ → X} (p : IsPass X f) where
  inert-steps : (xs : List ℕ) (level most : ℕ) (bs : List ℕ) → list_all is_inert xs ≡ true → level ≤ most
      → f level most (xs ++ bs) ≡ f level most bs
  inert-steps [] level most bs inert h = refl
  inert-steps (x ∷ xs) level most bs inert h =
      grind (arith, p.others x level most (xs ++ bs), inert-steps xs level most bs)

  blank-steps : (xs : List ℕ) (level most : ℕ) (bs : List ℕ) → list_all is_space xs ≡ true → level ≤ most
      → f level most (xs ++ bs) ≡ f level most bs
  blank-steps xs level most bs blank h =
      inert-steps xs level most bs (list_all-each is_space is_inert (λ b h. grind (arith, nat_tests)) xs blank) h

  label-steps : (c : Container) (l : Label) (level most : ℕ) (bs : List ℕ) → IsLabel c l → level ≤ most
      → f level most (label_spelling l ++ bs) ≡ f level most bs
  label-steps array (unnamed before) level most bs good h = blank-steps before level most bs good h
  label-steps object (named before name between after) level most bs good h =
      simp append_assoc (grind (arith, blank-steps, p.quotes, p.others 58, pieces-behind))
  label-steps c l level most bs good h = absurd good

  -- over a value the pass sees the value's depth, and is as deep behind it as before
  mutual
    pub tree-steps : (t : Tree) (level most more : ℕ) (bs : List ℕ) → IsGood t → level ≤ most
        → more ≡ max most (level + depth t) → f level most (spelling t ++ bs) ≡ f level more bs
    tree-steps (scalar literal) level most more bs good h e =
        let inert = list_all-each is_part_of_literal is_inert (λ b h. grind (arith, nat_tests)) literal
        (literal-plain literal good) in
        grind (arith, inert-steps literal level most bs inert)
    tree-steps (text pieces) level most more bs good h e =
        simp append_assoc (grind (arith, p.quotes, pieces-behind pieces bs))
    tree-steps (empty c blank) level most more bs good h e =
        simp append_assoc (grind (arith, p.opens c, p.closes c, blank-steps))
    tree-steps (filled c values) level most more bs good h e =
        simp append_assoc (grind (
          arith,
          p.opens c,
          p.closes c,
          values-steps c values level (max most (level + 1)) more (closing c ∷ bs),
        ))

    values-steps : (c : Container) (vs : Values) (level most more : ℕ) (bs : List ℕ) → AreGood c vs → level + 1 ≤ most
        → more ≡ max most (level + 1 + values_depth vs) → f (level + 1) most (values_spelling vs ++ bs)
        ≡ f (level + 1) more bs
    values-steps c (last label value blank) level most more bs good h e =
        simp append_assoc (grind (arith, label-steps c label, tree-steps value (level + 1) most more, blank-steps))
    values-steps c (next label value blank values) level most more bs good h e =
        let here = max most (level + 1 + depth value) in
        simp append_assoc (grind (
          arith,
          label-steps c label,
          tree-steps value (level + 1) most here,
          blank-steps,
          p.parts,
          values-steps c values level here more bs,
        ))
