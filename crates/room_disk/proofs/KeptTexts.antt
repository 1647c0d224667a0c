-- The text that tells how many messages are kept.
use Rattle.std.proofs.Common.{◌≡◌, ℕ, List, [], ◌∷◌, ◌++◌, codes, decimal, sym, ap, ◌∙◌, append_assoc}
use Rattle.json_text.specs.Characters.{quote}
use Rattle.json_text.specs.Compact.{object_text}
use Rattle.room_disk.specs.Keeping.{kept_text}

abbrev brace : List ℕ
brace = 125 ∷ []

abbrev kept_front : List ℕ
kept_front = codes "{\"type\":\"KEPT\",\"payload\":{\"messages\":"

pub kept-written : (number : ℕ) (empty opened filled closed : List ℕ) → empty ≡ [] → opened ≡ empty ++ kept_front
    → filled ≡ opened ++ decimal number → closed ≡ filled ++ (brace ++ brace)
    → closed ≡ kept_text number
unfolding object_text quote
kept-written number empty opened filled closed none one two three =
    let digits = decimal number in
    three ∙ ap (λ x. x ++ (brace ++ brace)) (two ∙ ap (λ x. x ++ digits) (one ∙ ap (λ x. x ++ kept_front) none))
    ∙ append_assoc kept_front digits (brace ++ brace)
    ∙ ap (λ x. kept_front ++ x) (sym (append_assoc digits brace brace))
