-- How a pass over a text counts the brackets that are open at once.
use Rattle.std.proofs.Common.{◌≡◌, length, ℕ, ◌+◌, ◌-◌, ◌<◌, ◌≤◌, max, drop, drop-drop, List, [], ◌∷◌, Bool, true, false, not, ◌&&◌, ◌==◌, if◌then◌else◌, refl, sym, ap, ◌∙◌, append-nil, arith}
use Rattle.std.proofs.lemmas.List.{nil_from_length}
use Rattle.std.proofs.lemmas.Bool.Decides.{nat_tests}
use Rattle.std.specs.List.{prefix_len}
use Rattle.json_text.specs.Tree.{Tree, spelling, IsGood, depth}
use Rattle.json_text.specs.Value.{IsCompact}
use Rattle.json_text.specs.Characters.{is_opening, is_closing, is_quiet}
use Rattle.json_text.specs.Walk.{Place, outside, inside}
use Rattle.scene_json.specs.inner.Passes.{behind_string}
use Rattle.json_text.proofs.CallerLemmas.{literal, quoted, listed, membered, Value-Form, Value-deeper, literal-compact, quote-compact, array-starts, object-starts}
use Rattle.scene_json.proofs.Behind.{length-behind_string}
use Rattle.scene_json.proofs.Passing.{IsPass, tree-steps}

abbrev pub level_after : ℕ → ℕ → ℕ
level_after b level = if is_opening b then level + 1 else (if is_closing b then level - 1 else level)

-- the most brackets that were open so far, or will be
abbrev pub deepest : Place → ℕ → ℕ → List ℕ → ℕ
deepest place level most [] = most
deepest outside level most (b ∷ bs) =
    deepest (if b == 34 then inside false else outside) (level_after b level) (max most (level_after b level)) bs
deepest (inside escaped) level most (b ∷ bs) =
    deepest (if b == 34 && not escaped then outside else inside (b == 92 && not escaped)) level most bs

-- a string changes nothing
inside-string : (escaped : Bool) (level most : ℕ) (bs : List ℕ)
    → deepest (inside escaped) level most bs ≡ deepest outside level most (behind_string escaped bs)
inside-string escaped level most [] = refl
inside-string escaped level most (b ∷ bs) = grind (arith, inside-string (b == 92 && not escaped) level most bs)

pub quote-step : (level most : ℕ) (bs : List ℕ) → level ≤ most
    → deepest outside level most (34 ∷ bs) ≡ deepest outside level most (behind_string false bs)
quote-step level most bs h = grind (arith, inside-string false level (max most level) bs)

-- nor do bytes that open and close nothing
pub still-run : (level most : ℕ) (bs : List ℕ) → level ≤ most
    → deepest outside level most (drop (prefix_len is_quiet bs) bs) ≡ deepest outside level most bs
still-run level most [] h = refl
still-run level most (b ∷ bs) h =
    grind (arith, nat_tests, drop-drop (prefix_len is_quiet bs) 1 (b ∷ bs), still-run level most bs)

-- nor do a closing bracket and one that is opened behind a comma
pub next-deep : (b level most : ℕ) (bs : List ℕ) → is_closing b ≡ true → 0 < level → level ≤ most
    → deepest outside level most (b ∷ 44 ∷ 91 ∷ bs) ≡ deepest outside level most bs
next-deep b level most bs closes some h = grind (arith, nat_tests)

-- the deepest place of a value's text
pub deepest-depth : (t : Tree) → IsGood t → deepest outside 0 0 (spelling t) ≡ depth t
deepest-depth t good =
    let pass : IsPass ℕ (deepest outside) = record {
      quotes = quote-step;
      opens = λ c level most bs. grind (arith, nat_tests);
      closes = λ c level most bs h. grind (arith, nat_tests);
      parts = λ level most bs h. grind (arith, nat_tests);
      others = λ b level most bs inert h. grind (arith, nat_tests);
    } in
    ap (deepest outside 0 0) (sym (append-nil (spelling t)))
    ∙ tree-steps pass t 0 0 (depth t) [] good (omega arith) (omega arith)

-- at the end, the deepest place is as deep as each tree that spells the text
pub depth-seen : (level most limit : ℕ) (rest text value : List ℕ) → length rest ≡ 0
    → deepest outside level most rest ≡ deepest outside 0 0 text → text ≡ value → (v : IsCompact limit value)
    → most ≡ depth v.tree
depth-seen level most limit rest text value none same is v =
    grind (arith, nil_from_length rest none, deepest-depth v.tree v.good, v.spells)

pub depth_holds : (level most : ℕ) (rest text value : List ℕ) → length rest ≡ 0
    → deepest outside level most rest ≡ deepest outside 0 0 text → text ≡ value → IsCompact 128 value
    → IsCompact most value
depth_holds level most rest text value none same is v =
    record {
      tree = v.tree;
      good = v.good;
      shallow =
          omega (arith, depth-seen level most 128 rest text value none same is v);
      spells = v.spells;
      means = v.means;
    }

-- a value that doesn't begin with an opening bracket nests at no depth
pub scalar-nests : (limit : ℕ) (text : List ℕ) → IsCompact 128 text
    → ((byte : ℕ) (more : List ℕ) → text ≡ byte ∷ more → is_opening byte ≡ false) → IsCompact limit text
scalar-nests limit text v opens = elim (Value-Form v) [
  | literal h ↦ literal-compact limit text h
  | quoted t u e ↦ rw e (quote-compact limit t u)
  | listed ts all some e ↦ let starts = array-starts ts in absurd (grind (arith, opens 91 starts.0 (e ∙ starts.1)))
  | membered ms are some e ↦ let starts = object-starts ms in absurd (grind (arith, opens 123 starts.0 (e ∙ starts.1)))
]

-- what a pass that counts brackets goes by at a string
pub ruleset depth_steps = (quote-step, still-run, next-deep, length-behind_string, depth_holds)

-- what tells how deep a value nests
pub ruleset nesting_steps = (scalar-nests, Value-deeper)
