-- Data URLs: what the first comma parts.
use Rattle.std.proofs.Common.{◌≡◌, ℕ, Bool, true, false, ◌||◌, ◌==◌, List, [], ◌∷◌, ◌++◌, codes, refl, sym, ap, ◌∙◌, append_assoc}
use Rattle.std.specs.List.{list_any}
use Rattle.std.proofs.lemmas.Bool.{both_ways, or_parts}
use Rattle.std.proofs.lemmas.List.Folds.{list_any-append}
use Rattle.std.proofs.lemmas.List.Prefix.{front_rest}
use Rattle.file_table.specs.Picture.{IsDataUrl}

-- whether there is a comma
abbrev pub has_comma : List ℕ → Bool
has_comma text = list_any (λ byte. byte == 44) text

first_comma : (xs ys others more : List ℕ) → has_comma xs ≡ false → has_comma others ≡ false
    → xs ++ 44 ∷ ys ≡ others ++ 44 ∷ more → (xs ≡ others) × (ys ≡ more)
first_comma [] ys [] more h k e = (refl, cc)
first_comma [] ys (o ∷ others) more h k e =
    let is : o ≡ 44 = cc in
    absurd (both_ways true (ap (λ b. (b == 44) || has_comma others) (sym is) ∙ k) refl)
first_comma (x ∷ xs) ys [] more h k e =
    let is : x ≡ 44 = cc in
    absurd (both_ways true (ap (λ b. (b == 44) || has_comma xs) (sym is) ∙ h) refl)
first_comma (x ∷ xs) ys (o ∷ others) more h k e =
    let same : x ≡ o = cc in
    let rest : xs ++ 44 ∷ ys ≡ others ++ 44 ∷ more = cc in
    let r = first_comma xs ys others more (or_parts (x == 44) (has_comma xs) h).1
    (or_parts (o == 44) (has_comma others) k).1 rest in
    (λ i. same i ∷ r.0 i, r.1)

-- ---- a data URL is `data:`, what stands before the first comma, and what stands behind it
module _ (url rest : List ℕ) (scheme : url ≡ codes "data:" ++ rest) where
  module _ (content : List ℕ) (is : IsDataUrl url content) where
    abbrev head : List ℕ
    head = is.media ++ codes ";base64"

    behind : rest ≡ head ++ 44 ∷ content
    behind =
        sym (front_rest url (codes "data:") rest scheme)
        ∙ front_rest url (codes "data:") (is.media ++ (codes ";base64" ++ 44 ∷ content)) is.parts
        ∙ sym (append_assoc is.media (codes ";base64") (44 ∷ content))

    free : has_comma head ≡ false
    free = list_any-append (λ byte. byte == 44) is.media (codes ";base64") ∙ ap (λ b. b || false) is.first

    pub comma_there : has_comma rest ≡ false → ⊥
    comma_there none =
        let parts = or_parts (has_comma head) true (sym (list_any-append (λ byte. byte == 44) head (44 ∷ content))
        ∙ ap has_comma (sym behind) ∙ none) in
        both_ways true parts.1 refl

    pub base64_there : (before after : List ℕ) → rest ≡ before ++ 44 ∷ after → has_comma before ≡ false
        → (before ≡ is.media ++ codes ";base64") × (after ≡ content)
    base64_there before after parts none = first_comma before after head content none free (sym parts ∙ behind)

  pub IsDataUrl-from : (before after media : List ℕ) → rest ≡ before ++ 44 ∷ after → has_comma before ≡ false
      → before ≡ media ++ codes ";base64" → IsDataUrl url after
  IsDataUrl-from before after media parts none ends = record {
    media = media;
    parts =
        scheme ∙ ap (λ x. codes "data:" ++ x) (parts ∙ ap (λ x. x ++ 44 ∷ after) ends
        ∙ append_assoc media (codes ";base64") (44 ∷ after));
    first =
        (or_parts (has_comma media) false (sym (list_any-append (λ byte. byte == 44) media (codes ";base64"))
        ∙ ap has_comma (sym ends) ∙ none)).0;
  }

pub content-unique : (url content other : List ℕ) → IsDataUrl url content → IsDataUrl url other → content ≡ other
content-unique url content other is as' =
    (base64_there url (is.media ++ (codes ";base64" ++ 44 ∷ content)) is.parts other as' (is.media ++ codes ";base64")
    content
    (sym (append_assoc is.media (codes ";base64") (44 ∷ content)))
    (list_any-append (λ byte. byte == 44) is.media (codes ";base64") ∙ ap (λ b. b || false) is.first)).1
