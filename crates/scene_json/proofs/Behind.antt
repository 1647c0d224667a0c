-- Where a string ends.
use Rattle.std.proofs.Common.{◌≡◌, ◌≢◌, ℕ, ◌+◌, ◌<◌, ◌≤◌, min, get_or, drop, drop-drop, drop_of_length-le, length-drop, List, [], ◌∷◌, ◌++◌, Bool, true, false, not, ◌&&◌, ◌==◌, length, flat_map, refl, append_assoc, arith}
use Rattle.std.specs.List.{list_all, AllByRecursion, prefix_len}
use Rattle.std.specs.Char.{encode_utf8}
use Rattle.std.proofs.lemmas.List.{get_or-drop}
use Rattle.std.proofs.lemmas.List.Sums.{prefix_len_stops}
use Rattle.std.proofs.lemmas.Bool.Decides.{nat_tests}
use Rattle.json_text.specs.Characters.{is_hex, is_plain}
use Rattle.json_text.specs.Tree.{Piece, bare, letter, unit, IsPiece, piece_spelling}
use Rattle.scene_json.specs.inner.Passes.{behind_string}
use Rattle.scene_json.proofs.ItemsLeft.{front}
use Rattle.json_text.proofs.CallerLemmas.{list_all-each, plain-bare, hex-plain}

pub length-behind_string : (escaped : Bool) (bs : List ℕ) → length (behind_string escaped bs) ≤ length bs
length-behind_string escaped [] = omega arith
length-behind_string escaped (b ∷ bs) = grind (arith, length-behind_string (b == 92 && not escaped) bs)

-- a pass inside a string goes over plain bytes
plain-behind : (xs bs : List ℕ) → list_all is_plain xs ≡ true → behind_string false (xs ++ bs) ≡ behind_string false bs
plain-behind [] bs h = refl
plain-behind (x ∷ xs) bs h = grind (arith, nat_tests, plain-behind xs bs)

piece-behind : (p : Piece) (bs : List ℕ) → IsPiece p → behind_string false (piece_spelling p ++ bs)
    ≡ behind_string false bs
piece-behind (bare c) bs h = plain-behind (encode_utf8 c) bs (plain-bare c h.2 h.3)
piece-behind (letter b) bs h = grind (arith, nat_tests)
piece-behind (unit a b c d) bs h =
    plain-behind (a ∷ b ∷ c ∷ d ∷ []) bs (list_all-each is_hex is_plain hex-plain (a ∷ b ∷ c ∷ d ∷ []) h)

-- behind a string of good pieces stands what follows it
pub pieces-behind : (ps : List Piece) (bs : List ℕ) → AllByRecursion IsPiece ps
    → behind_string false (flat_map piece_spelling ps ++ 34 ∷ bs) ≡ bs
pieces-behind [] bs h = refl
pieces-behind (p ∷ ps) bs h =
    simp append_assoc (grind (arith, piece-behind p (flat_map piece_spelling ps ++ 34 ∷ bs), pieces-behind ps bs))

-- a run of plain bytes at the front, which ends at the string's end or at an escape
pub behind-run : (bs : List ℕ) → behind_string false (drop (prefix_len is_plain bs) bs) ≡ behind_string false bs
behind-run [] = refl
behind-run (b ∷ bs) = grind (arith, nat_tests, drop-drop (prefix_len is_plain bs) 1 (b ∷ bs), behind-run bs)

-- the byte behind a `\` plays no part
passed : (bs : List ℕ) → behind_string false (drop 1 bs) ≡ behind_string false (92 ∷ bs)
passed bs = grind (arith, nat_tests)

-- At the end of a run what stands behind the string is still to come: nothing where the bytes break off, or what
-- follows its closing quotation mark, or what stands behind an escape.
module _ (bytes : List ℕ) (at end : ℕ) (is : end ≡ at + prefix_len is_plain (drop at bytes))
    (same : behind_string false (drop at bytes) ≡ behind_string false bytes) where
  stopped : behind_string false (drop end bytes) ≡ behind_string false bytes
  stopped =
      grind (arith, drop-drop (prefix_len is_plain (drop at bytes)) at bytes, behind-run (drop at bytes), is, same)

  pub string_broken : length bytes ≡ end → [] ≡ behind_string false bytes
  string_broken past = grind (arith, drop_of_length-le bytes, stopped)

  pub string_closed : end < length bytes → get_or bytes end 0 ≡ 34 → drop (end + 1) bytes ≡ behind_string false bytes
  string_closed within mark = grind (arith, front bytes end within mark, stopped)

  pub string_escaped : (next : ℕ) → end < length bytes → at ≤ length bytes → get_or bytes end 0 ≢ 34
      → next ≡ min (length bytes) (end + 2) → behind_string false (drop next bytes) ≡ behind_string false bytes
  string_escaped next within low other e =
      let inside = prefix_len_stops is_plain (drop at bytes) 0 (omega (arith, length-drop at bytes)) in
      grind (
        arith,
        nat_tests,
        is,
        inside,
        get_or-drop at bytes,
        drop-drop 1 (end + 1) bytes,
        passed (drop (end + 1) bytes),
        front bytes end {b = 92} within,
        stopped,
        drop_of_length-le,
      )
