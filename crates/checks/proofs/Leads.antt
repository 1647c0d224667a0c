-- Texts that lead to others.
use Rattle.std.proofs.Common.{◌≡◌, ℕ, ◌+◌, List, [], ◌∷◌, ◌++◌, Option, Some, None, length, refl, sym, ap, subst, ◌∙◌, append_assoc, append-nil, length-append}
use Rattle.checks.specs.Reading.{AreTexts}
use Rattle.checks.specs.inner.Behind.{AreBehind}
use Rattle.checks.specs.declared.judged.Judged.{Judged}

-- Whatever texts stand from the offset on, they stand behind these.
abbrev pub Lead : List ℕ → List Judged → ℕ → Type 0
Lead bytes texts at =
    (more : List Judged) → AreTexts bytes (length texts + 1) at more → AreTexts bytes 1 0 (texts ++ more)

-- one text more, and those behind it
behind-more : (bytes : List ℕ) (texts new : List Judged) (text : Judged) (at : ℕ) (next : Option ℕ)
    → Lead bytes texts at
    → ((more : List Judged) → AreBehind bytes (length texts + 1) next more
    → AreTexts bytes (length texts + 1) at (text ∷ more))
    → new ≡ texts ++ text ∷ [] → (more : List Judged) → AreBehind bytes (length texts + 1) next more
    → AreTexts bytes 1 0 (new ++ more)
behind-more bytes texts new text at next lead here pushed more behind =
    subst (AreTexts bytes 1 0)
    (sym (append_assoc texts (text ∷ []) more) ∙ ap (λ ts. ts ++ more) (sym pushed))
    (lead (text ∷ more) (here more behind))

pub lead-more : (bytes : List ℕ) (texts new : List Judged) (text : Judged) (at end : ℕ) → Lead bytes texts at
    → ((more : List Judged) → AreBehind bytes (length texts + 1) (Some end) more
    → AreTexts bytes (length texts + 1) at (text ∷ more))
    → new ≡ texts ++ text ∷ [] → Lead bytes new end
lead-more bytes texts new text at end lead here pushed more behind =
    let longer : length new ≡ length texts + 1 =
    ap length pushed ∙ (length-append texts (text ∷ []) ∙ (let e : length texts + 1 ≡ length texts + 1 = refl in e)) in
    behind-more bytes texts new text at (Some end) lead here pushed more
    (subst (λ n. AreTexts bytes (n + 1) end more) longer behind)

pub lead-last : (bytes : List ℕ) (texts new : List Judged) (text : Judged) (at : ℕ) → Lead bytes texts at
    → ((more : List Judged) → AreBehind bytes (length texts + 1) None more
    → AreTexts bytes (length texts + 1) at (text ∷ more))
    → new ≡ texts ++ text ∷ [] → AreTexts bytes 1 0 new
lead-last bytes texts new text at lead here pushed =
    subst (AreTexts bytes 1 0) (append-nil new) (behind-more bytes texts new text at None lead here pushed [] refl)

pub lead-end : (bytes : List ℕ) (texts : List Judged) (at : ℕ) → Lead bytes texts at
    → AreTexts bytes (length texts + 1) at [] → AreTexts bytes 1 0 texts
lead-end bytes texts at lead end = subst (AreTexts bytes 1 0) (append-nil texts) (lead [] end)
