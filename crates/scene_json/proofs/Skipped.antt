-- How a pass over a text finds the end of a value in a container.
use Rattle.std.proofs.Common.{◌≡◌, ℕ, ◌+◌, ◌<◌, max, drop, drop-drop, List, [], ◌∷◌, ◌++◌, Bool, true, false, not, ◌&&◌, ◌==◌, if◌then◌else◌, refl, sym, ap, ◌∙◌, arith}
use Rattle.std.proofs.lemmas.Bool.Decides.{nat_tests}
use Rattle.std.specs.List.{prefix_len}
use Rattle.json_text.specs.Tree.{depth}
use Rattle.json_text.specs.Characters.{ends_value, is_closing, is_inert, is_quiet}
use Rattle.json_text.specs.Walk.{Place, outside, inside}
use Rattle.scene_json.specs.Passes.{IsEnd}
use Rattle.scene_json.specs.inner.Passes.{behind_string, Compacted}
use Rattle.scene_json.proofs.Behind.{length-behind_string}
use Rattle.scene_json.proofs.Depths.{level_after}
use Rattle.scene_json.proofs.Passing.{IsPass, tree-steps}

-- what stands behind the value, in which so many brackets are open
abbrev pub skipped : Place → ℕ → List ℕ → List ℕ
skipped place level [] = []
skipped outside level (b ∷ bs) =
    if ends_value b && level == 0 then b ∷ bs else skipped (if b == 34 then inside false else outside)
    (level_after b level) bs
skipped (inside escaped) level (b ∷ bs) =
    skipped (if b == 34 && not escaped then outside else inside (b == 92 && not escaped)) level bs

-- a string changes nothing
pub inside-string : (escaped : Bool) (level : ℕ) (bs : List ℕ)
    → skipped (inside escaped) level bs ≡ skipped outside level (behind_string escaped bs)
inside-string escaped level [] = refl
inside-string escaped level (b ∷ bs) = grind (arith, inside-string (b == 92 && not escaped) level bs)

-- nor do bytes that play no part in where a value ends
pub inert-run : (level : ℕ) (bs : List ℕ) → skipped outside level (drop (prefix_len is_inert bs) bs)
    ≡ skipped outside level bs
inert-run level [] = refl
inert-run level (b ∷ bs) = grind (arith, nat_tests, drop-drop (prefix_len is_inert bs) 1 (b ∷ bs), inert-run level bs)

pub quiet-run : (level : ℕ) (bs : List ℕ) → 0 < level → skipped outside level (drop (prefix_len is_quiet bs) bs)
    ≡ skipped outside level bs
quiet-run level [] some = refl
quiet-run level (b ∷ bs) some =
    grind (arith, nat_tests, drop-drop (prefix_len is_quiet bs) 1 (b ∷ bs), quiet-run level bs)

-- nor do a closing bracket and one that is opened behind a comma, inside others
pub next-opens : (b level : ℕ) (bs : List ℕ) → is_closing b ≡ true → 1 < level
    → skipped outside level (b ∷ 44 ∷ 91 ∷ bs) ≡ skipped outside level bs
next-opens b level bs closes some = grind (arith, nat_tests)

pub end-step : (rest : List ℕ) → IsEnd rest → skipped outside 0 rest ≡ rest
end-step [] h = absurd h
end-step (b ∷ bs) h = rw h refl

-- The pass ends where the value does.
pub skipped-value : (bytes found rest : List ℕ) → Compacted bytes found rest → skipped outside 0 bytes ≡ rest
skipped-value bytes found rest h =
    let v = h.compact in
    let pass : IsPass (List ℕ) (λ level most bs. skipped outside level bs) = record {
      quotes = λ level most bs _. inside-string false level bs;
      opens = λ c level most bs. grind (arith, nat_tests);
      closes = λ c level most bs h. grind (arith, nat_tests);
      parts = λ level most bs h. grind (arith, nat_tests);
      others = λ b level most bs inert h. grind (arith, nat_tests);
    } in
    ap (skipped outside 0) (h.parts ∙ ap (λ x. x ++ rest) (sym v.spells))
    ∙ tree-steps pass v.tree 0 0 (max 0 (0 + depth v.tree)) rest v.good (omega arith) refl ∙ end-step rest h.ends

-- what a pass that looks for the end of a value goes by at a string
pub ruleset skip_steps = (inside-string, inert-run, quiet-run, next-opens, length-behind_string)
