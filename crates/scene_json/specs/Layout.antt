-- The layout of two spaces a level. This project's own choice of white space, which RFC 8259,
-- section 2, leaves free.
use Rattle.std.specs.Prelude.{◌≡◌, ℕ, ◌+◌, List, [], ◌∷◌, replicate}
use Rattle.json_text.specs.Tree.{Label, unnamed, named, Tree, scalar, text, empty, filled, Values, last, next, IsGood, spelling}

-- a new line with so many spaces
abbrev pub line : ℕ → List ℕ
line spaces = 10 ∷ replicate spaces 32

-- a label on a line of its own, with a space behind the colon
abbrev pub label_laid_out : ℕ → Label → Label
label_laid_out spaces (unnamed before) = unnamed (line spaces)
label_laid_out spaces (named before name between after) = named (line spaces) name [] (32 ∷ [])

-- the tree with each member and item on a line of its own, two spaces deeper than its container
abbrev mutual
  pub laid_out : ℕ → Tree → Tree
  laid_out spaces (scalar literal) = scalar literal
  laid_out spaces (text pieces) = text pieces
  laid_out spaces (empty container blank) = empty container []
  laid_out spaces (filled container values) = filled container (values_laid_out spaces values)

  pub values_laid_out : ℕ → Values → Values
  values_laid_out spaces (last label value blank) =
      last (label_laid_out (spaces + 2) label) (laid_out (spaces + 2) value) (line spaces)
  values_laid_out spaces (next label value blank values) =
      next (label_laid_out (spaces + 2) label) (laid_out (spaces + 2) value) []
      (values_laid_out spaces values)

-- What was written is the layout of the value with this text, whose lines have so many spaces.
pub record IsLaidOut (spaces : ℕ) (bytes written : List ℕ) : Type 0 where
  pub tree : Tree
  pub good : IsGood tree
  pub spells : spelling tree ≡ bytes
  pub laid : written ≡ spelling (laid_out spaces tree)
