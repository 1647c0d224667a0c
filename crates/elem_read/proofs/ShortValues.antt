-- A text has no more open brackets than bytes.
use Rattle.std.proofs.Common.{ℕ, ◌+◌, ◌≤◌, max, List, [], ◌∷◌, length, false, not, ◌&&◌, ◌==◌, if◌then◌else◌, refl, arith}
use Rattle.json_text.specs.Value.{IsCompact}
use Rattle.json_text.specs.Walk.{Place, outside, inside}
use Rattle.scene_json.proofs.CallerLemmas.{deepest, level_after, depth-seen}

one-more : (b level : ℕ) → level_after b level ≤ level + 1
one-more b level = grind arith

deepest-within : (place : Place) (level most : ℕ) (bs : List ℕ) → level ≤ most
    → deepest place level most bs ≤ most + length bs
deepest-within place level most [] h = omega arith
deepest-within outside level most (b ∷ bs) h =
    let after = level_after b level in
    let rest = deepest-within (if b == 34 then inside false else outside) after (max most after) bs (omega arith) in
    omega (arith, one-more b level, rest)
deepest-within (inside escaped) level most (b ∷ bs) h =
    omega (
      arith,
      deepest-within (if b == 34 && not escaped then outside else inside (b == 92 && not escaped)) level
          most bs h,
    )

pub short_nests : (limit : ℕ) (text : List ℕ) → IsCompact 128 text → length text ≤ limit → IsCompact limit text
short_nests limit text v short =
    let same = depth-seen 0 (deepest outside 0 0 text) 128 [] text text refl refl refl v in
    record {
      tree = v.tree;
      good = v.good;
      shallow = omega (
        arith,
        same,
        deepest-within outside 0 0 text (omega arith),
        short,
      );
      spells = v.spells;
      means = v.means;
    }
