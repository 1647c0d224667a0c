-- The lines of a drill, appended one after the other.
use Rattle.std.proofs.Common.{◌≡◌, ℕ, List, [], ◌∷◌, ◌++◌, map, flat_map, sym, ap, ◌∙◌, append_assoc, append-nil}
use Rattle.std.proofs.lemmas.Grind.{flat_map-append}
use Rattle.workload.specs.Deeds.{course}
use Rattle.workload.specs.Texts.{deed_text, delivery_text, rising, falling, last_texts, session_header_text, line, drill_text}

behind4 : (o a b c d : List ℕ) → (((o ++ a) ++ b) ++ c) ++ d ≡ o ++ (a ++ (b ++ (c ++ d)))
behind4 o a b c d = simp append_assoc

-- the last four lines
pub last-written : (made : ℕ) (o p q r s one two three four : List ℕ) → one ≡ rising made → two ≡ falling made
    → three ≡ rising made → four ≡ falling made →
    p ≡ o ++ line (delivery_text 0 one) → q ≡ p ++ line (delivery_text 1 two) → r ≡ q ++ line (delivery_text 2 three)
    → s ≡ r ++ line (delivery_text 3 four) → s ≡ o ++ flat_map line (last_texts made)
last-written made o p q r s one two three four a b c d e f g h =
    let first : List ℕ = line (delivery_text 0 one) in
    let second : List ℕ = line (delivery_text 1 two) in
    let third : List ℕ = line (delivery_text 2 three) in
    let fourth : List ℕ = line (delivery_text 3 four) in
    h
    ∙ (ap (λ (bytes : List ℕ). bytes ++ fourth) (g
    ∙ ap (λ (bytes : List ℕ). bytes ++ third) (f ∙ ap (λ (bytes : List ℕ). bytes ++ second) e))
    ∙ (behind4 o first second third fourth
    ∙ (ap (λ (rest : List ℕ). o ++ (first ++ (second ++ (third ++ rest)))) (sym (append-nil fourth))
    ∙ (λ i. o ++ flat_map line (delivery_text 0 (a i) ∷ delivery_text 1 (b i) ∷ delivery_text 2 (c i)
    ∷ delivery_text 3 (d i) ∷ [])))))

-- all lines
pub drill-written : (seed events made : ℕ) (o h n e l : List ℕ) → o ≡ [] → h ≡ o ++ session_header_text seed
    → n ≡ h ++ 10 ∷ [] → e ≡ n ++ flat_map line (map deed_text (course seed events).deeds)
    → l ≡ e ++ flat_map line (last_texts made) → made ≡ (course seed events).made → l ≡ drill_text seed events
unfolding drill_text
drill-written seed events made o h n e l none one two three four same =
    let drawn : List (List ℕ) = map deed_text (course seed events).deeds in
    let last : List (List ℕ) = last_texts (course seed events).made in
    let begun : n ≡ line (session_header_text seed) = two
    ∙ ap (λ (bytes : List ℕ). bytes ++ 10 ∷ []) (one
    ∙ ap (λ (bytes : List ℕ). bytes ++ session_header_text seed) none) in
    four ∙ (ap (λ m. e ++ flat_map line (last_texts m)) same
    ∙ (ap (λ (bytes : List ℕ). bytes ++ flat_map line last) (three
    ∙ ap (λ (bytes : List ℕ). bytes ++ flat_map line drawn) begun)
    ∙ (append_assoc (line (session_header_text seed)) (flat_map line drawn) (flat_map line last)
    ∙ ap (λ (bytes : List ℕ). line (session_header_text seed) ++ bytes) (sym (flat_map-append line drawn last)))))
