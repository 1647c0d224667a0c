-- Strings in which no character is escaped, passed whole.
use Rattle.std.proofs.Common.{◌≡◌, ℕ, ◌+◌, ◌<◌, ◌≤◌, true, List, [], ◌∷◌, ◌++◌, length, get_or, refl, ap, ◌∙◌, arith}
use Rattle.std.specs.List.{AllByRecursion}
use Rattle.std.proofs.lemmas.Bool.Decides.{nat_tests}
use Rattle.json_text.specs.Characters.{is_bare}
use Rattle.json_reader.specs.inner.Machine.{Bracket, Mode, Role, Quoted, Plain, To, after_string, moved, state, step, top}
use Rattle.json_reader.specs.inner.Writing.{stretch}
use Rattle.json_reader.proofs.Copying.{headed}
use Rattle.json_reader.proofs.Moves.{stay_run}
use Rattle.json_reader.proofs.Outcomes.{one_more}
use Rattle.json_reader.proofs.Steps.{run, run-append}

text-stays : (role : Role) (st : List Bracket) (xs : List ℕ) → AllByRecursion (λ b. is_bare b ≡ true) xs
    → AllByRecursion (λ b. moved (Quoted role Plain) (top st) b ≡ To (Quoted role Plain)) xs
text-stays role st [] bare = tt
text-stays role st (x ∷ xs) bare = (let is = bare.0 in grind (arith, nat_tests), text-stays role st xs bare.1)

-- the machine over such a string
pub string-runs : (m : Mode) (st : List Bracket) (role : Role) (xs : List ℕ)
    → step 128 m st 34 ≡ state (Quoted role Plain) st → AllByRecursion (λ b. is_bare b ≡ true) xs
    → run 128 (state m st) (34 ∷ (xs ++ 34 ∷ [])) ≡ state (after_string role) st
string-runs m st role xs begins bare =
    ap (λ o. run 128 o (xs ++ 34 ∷ [])) begins ∙ run-append 128 (state (Quoted role Plain) st) xs (34 ∷ [])
    ∙ ap (λ o. run 128 o (34 ∷ [])) (stay_run (Quoted role Plain) st xs (text-stays role st xs bare))

-- where it stands
pub string-there : (bytes : List ℕ) (at end : ℕ) → at + 1 ≤ end → end < length bytes → get_or bytes at 0 ≡ 34
    → get_or bytes end 0 ≡ 34 → stretch bytes at (end + 1) ≡ 34 ∷ (stretch bytes (at + 1) end ++ 34 ∷ [])
string-there bytes at end up high begins ends =
    rw (
      headed bytes at (end + 1) (omega arith) (omega arith),
      one_more bytes (at + 1) end up high,
      begins,
      ends,
    )
    refl
