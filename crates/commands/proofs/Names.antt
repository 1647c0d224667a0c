-- Words that may stand for texts.
use Rattle.std.proofs.Common.{◌≡◌, ℕ, ◌==◌, List, [], ◌∷◌, inl, inr, true, false, not, length, Option, Some, None, IsSome, MatchOption, Result, Ok, Err, MatchResult, is_ok, refl, sym, ap, subst, ◌∙◌}
use Rattle.std.specs.Str.{IsUtf8, is_utf8}
use Rattle.std.proofs.lemmas.Bool.{cases_Bool}
use Rattle.std.proofs.lemmas.Str.{IsUtf8-from_is_utf8, is_utf8-from_IsUtf8}
use Rattle.commands.specs.Words.{is_name}

pub name-utf8 : (name : List ℕ) → is_name name ≡ true → IsUtf8 name
name-utf8 [] is = cc
name-utf8 (byte ∷ bytes) is = IsUtf8-from_is_utf8 (byte ∷ bytes) is

-- reading a text succeeds exactly where the test does
tells : {A E : Type 0} (Q : A → Type 0) (R : E → Type 0) (bytes : List ℕ) (r : Result A E)
    → MatchResult r (λ s. Q s × IsUtf8 bytes) (λ e. (IsUtf8 bytes → ⊥) × R e) → is_ok r ≡ is_utf8 bytes
tells Q R bytes (Ok s) is = sym (is_utf8-from_IsUtf8 bytes is.1)
tells Q R bytes (Err e) is = elim (cases_Bool (is_utf8 bytes)) [
  | inl t ↦ absurd (is.0 (IsUtf8-from_is_utf8 bytes t))
  | inr f ↦ sym f
]

name-some : (name : List ℕ) → not (length name == 0) ≡ true → is_name name ≡ is_utf8 name
name-some [] some = absurd (let e : false ≡ true = some in cc)
name-some (byte ∷ bytes) some = refl

pub name-tells : {A E : Type 0} (Q : A → Type 0) (R : E → Type 0) (name bytes : List ℕ) (r : Result A E) → bytes ≡ name
    → not (length name == 0) ≡ true
    → MatchResult r (λ s. Q s × IsUtf8 bytes) (λ e. (IsUtf8 bytes → ⊥) × R e) → is_ok r ≡ is_name name
name-tells Q R name bytes r same some is = tells Q R bytes r is ∙ (ap is_utf8 same ∙ sym (name-some name some))

-- a name is read as a text
pub name-read : (name bytes : List ℕ) (found : Option (List ℕ)) → bytes ≡ name → is_name name ≡ true
    → MatchOption found (IsUtf8 bytes → ⊥) (λ text. text ≡ bytes) → IsSome found
name-read name bytes None same is none = absurd (none (subst IsUtf8 (sym same) (name-utf8 name is)))
name-read name bytes (Some text) same is read = refl
