-- How the layout of a text goes on behind a first part of it. This project's own.
use Rattle.std.specs.Prelude.{◌≡◌, ℕ, List, [], ◌∷◌, ◌++◌, Bool, false, not, ◌&&◌, ◌==◌, if◌then◌else◌}
use Rattle.json_text.specs.Characters.{is_space, quotation_mark, backslash, is_opening}
use Rattle.json_text.specs.Walk.{Place, outside, inside}
use Rattle.json_text.specs.Tree.{Tree, IsGood, spelling}
use Rattle.scene_json.specs.Layout.{laid_out}
use Rattle.scene_json.specs.Passes.{spaces_from, put_before, put_behind}

-- Where a layout stands: in a string or not, whether a container was just opened, and how many
-- spaces its lines have.
pub record Standing : Type 0 where
  pub place : Place
  pub first : Bool
  pub spaces : ℕ

-- the layout of what a text has from here on
abbrev pub layout : Place → Bool → ℕ → List ℕ → List ℕ
layout place first spaces [] = []
layout outside first spaces (b ∷ bs) =
    (if is_space b then [] else put_before first spaces b ++ b
    ∷ put_behind (spaces_from first spaces b) b)
    ++ layout (if b == quotation_mark then inside false else outside)
    (if is_space b then first else is_opening b)
    (if is_space b then spaces else spaces_from first spaces b)
    bs
layout (inside escaped) first spaces (b ∷ bs) =
    b ∷ layout (if b == quotation_mark && not escaped then outside else inside
    (b == backslash && not escaped)) first spaces bs

abbrev pub layout_from : Standing → List ℕ → List ℕ
layout_from standing rest = layout standing.place standing.first standing.spaces rest

-- The layout of a value whose text begins so begins with what was written, and goes on from where
-- it stands.
pub record IsLaidOutSoFar (standing : Standing) (text written : List ℕ) : Type 0 where
  pub goes_on : (tree : Tree) (rest : List ℕ) → IsGood tree → spelling tree ≡ text ++ rest
      → spelling (laid_out 0 tree) ≡ written ++ layout_from standing rest
