-- A value that is laid out is the same value.
use Rattle.std.proofs.Common.{◌≡◌, ℕ, zero, suc, ◌+◌, List, true, refl, sym, ap, ◌∙◌, arith}
use Rattle.std.specs.List.{list_all}
use Rattle.json_text.specs.Characters.{is_space}
use Rattle.json_text.specs.Tree.{Container, Label, IsLabel, Tree, filled, Values, last, next, spelling, IsGood, AreGood, depth, values_depth}
use Rattle.json_text.specs.Compact.{container_text, compact, members}
use Rattle.json_text.specs.Value.{Value}
use Rattle.scene_json.specs.Layout.{line, label_laid_out, laid_out, values_laid_out}

line-blank : (n : ℕ) → list_all is_space (line n) ≡ true
line-blank zero = refl
line-blank (suc n) = line-blank n

label-good : (c : Container) (l : Label) (n : ℕ) → IsLabel c l → IsLabel c (label_laid_out n l)
label-good c l n good = grind (arith, line-blank n)

-- the layout is as good and as deep, and has the same compact text
mutual
  tree-laid : (t : Tree) (n : ℕ) → (IsGood t → IsGood (laid_out n t)) × (depth (laid_out n t) ≡ depth t)
      × (compact (laid_out n t) ≡ compact t)
  tree-laid (filled c values) n = let all = values-laid values n in (all.0 c, ap suc all.1, ap (container_text c) all.2)
  tree-laid t n = grind arith

  values-laid : (vs : Values) (n : ℕ) → ((c : Container) → AreGood c vs → AreGood c (values_laid_out n vs))
      × (values_depth (values_laid_out n vs) ≡ values_depth vs) × (members (values_laid_out n vs) ≡ members vs)
  values-laid (last label value blank) n = grind (arith, tree-laid value (n + 2), label-good, line-blank n)
  values-laid (next label value blank values) n =
      grind (arith, tree-laid value (n + 2), label-good, values-laid values n)

-- what spells the layout of a tree of a value is a value with the same compact text
pub laid-Value : (limit n : ℕ) (bytes laid s : List ℕ) → (v : Value limit bytes s) → laid ≡ spelling (laid_out n v.tree)
    → Value limit laid s
laid-Value limit n bytes laid s v e = record {
  tree = laid_out n v.tree;
  good = (tree-laid v.tree n).0 v.good;
  shallow = omega (arith, (tree-laid v.tree n).1, v.shallow);
  spells = sym e;
  means = (tree-laid v.tree n).2 ∙ v.means;
}
