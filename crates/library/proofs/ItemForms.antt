-- What an item's members say is one thing, and it is decided whether they say it.
use Rattle.std.proofs.Common.{◌≡◌, ◌⊎◌, inl, inr, ℕ, List, [], Bool, true, false, Option, Some, None, bytes_eq, codes, decimal, refl, sym, ap, ◌∙◌, arith, lit<}
use Rattle.std.proofs.lemmas.Bool.{both_ways}
use Rattle.std.proofs.lemmas.Option.{same_Some}
use Rattle.json_text.specs.Characters.{quote}
use Rattle.json_text.specs.Compact.{array_text}
use Rattle.json_text.specs.Tree.{null_word}
use Rattle.json_text.proofs.CallerLemmas.{array-or-not, bytes_eq-same, ascii-utf8}
use Rattle.scene_json.proofs.CallerLemmas.{digit_of_decimal}
use Rattle.elem.specs.Forms.{IsNull, IsText, IsWholeNumber}
use Rattle.elem.proofs.CallerLemmas.{array-once, null-no-text, text-once, whole-once}
use Rattle.elem_read.proofs.CallerLemmas.{Decided, Fits, whole-or-not, null-or-not}
use Rattle.scene_file.proofs.CallerLemmas.{is-text}
use Rattle.library.specs.Items.{status_word}
use Rattle.library.specs.Reading.{IsArray, IsStatus, IsTime}

-- ---- one thing alone
word-text : (found : Option (List ℕ)) (published : Bool) → found ≡ Some (quote (status_word published))
    → IsText found (status_word published)
word-text found true e = (ascii-utf8 (codes "published") refl, e)
word-text found false e = (ascii-utf8 (codes "unpublished") refl, e)

no-both : (found : Option (List ℕ)) → found ≡ Some (quote (status_word true)) → IsStatus found false → ⊥
no-both found e (inl null) = null-no-text found (status_word true) null (word-text found true e)
no-both found e (inr f) =
    let same : bytes_eq (codes "published") (codes "unpublished") ≡ true =
    ap (bytes_eq (codes "published"))
    (sym (text-once found (status_word true) (status_word false) (word-text found true e)
    (word-text found false f))) ∙ bytes_eq-same (codes "published") in
    both_ways false refl same

pub status-once : (found : Option (List ℕ)) (a b : Bool) → IsStatus found a → IsStatus found b → a ≡ b
status-once found true true one two = refl
status-once found false false one two = refl
status-once found true false one two = absurd (no-both found one two)
status-once found false true one two = absurd (no-both found two one)

-- null is no number: its first byte is no digit
null-no-whole : (found : Option (List ℕ)) (n : ℕ) → IsNull found → IsWholeNumber found n → ⊥
null-no-whole found n (inl none) is = let e = is.1 in absurd cc
null-no-whole found n (inr null) is =
    let same : null_word ≡ decimal n = same_Some null_word (decimal n) (sym null ∙ is.1) in
    let digit = digit_of_decimal null_word n 0 (omega (arith, is.0)) same (lit< tt) in
    omega (arith, digit.0, digit.1)

pub time-once : (found : Option (List ℕ)) (a b : ℕ) → IsTime found a → IsTime found b → a ≡ b
time-once found a b (inl one) (inl two) = one.1 ∙ sym two.1
time-once found a b (inl one) (inr two) = absurd (null-no-whole found b one.0 two)
time-once found a b (inr one) (inl two) = absurd (null-no-whole found a two.0 one)
time-once found a b (inr one) (inr two) = whole-once found a b one two

pub array_of-once : (found : Option (List ℕ)) (values others : List (List ℕ)) → IsArray found values
    → IsArray found others → values ≡ others
array_of-once found values others one two =
    array-once values others one.0 two.0 (same_Some (array_text values) (array_text others) (sym one.1 ∙ two.1))

-- ---- it is decided

-- nothing else says whether an item is published
pub no-status : (found : Option (List ℕ)) → (found ≡ Some (quote (status_word true)) → ⊥) → (IsNull found → ⊥)
    → (found ≡ Some (quote (status_word false)) → ⊥) → (b : Bool) → IsStatus found b → ⊥
no-status found first none second true is = first is
no-status found first none second false (inl null) = none null
no-status found first none second false (inr is) = second is

pub status-or-not : (found : Option (List ℕ)) → Fits found → Decided (IsStatus found)
status-or-not found fits =
    by (is-text found (status_word true) fits) (null-or-not found) (is-text found (status_word false) fits)
  where
    by : IsText found (status_word true) ⊎ (IsText found (status_word true) → ⊥) → IsNull found ⊎ (IsNull found → ⊥)
        → IsText found (status_word false) ⊎ (IsText found (status_word false) → ⊥) → Decided (IsStatus found)
    by (inl is) null other = inl (true, is.1)
    by (inr first) (inl null) other = inl (false, inl null)
    by (inr first) (inr none) (inl is) = inl (false, inr is.1)
    by (inr first) (inr none) (inr second) =
        inr (no-status found (λ is. first (word-text found true is)) none (λ is. second (word-text found false is)))

pub time-or-not : (found : Option (List ℕ)) → Fits found → Decided (IsTime found)
time-or-not found fits = by (null-or-not found) (whole-or-not found)
  where
    neither : (IsNull found → ⊥) → ((n : ℕ) → IsWholeNumber found n → ⊥) → (n : ℕ) → IsTime found n → ⊥
    neither none other n (inl null) = none null.0
    neither none other n (inr is) = other n is

    by : IsNull found ⊎ (IsNull found → ⊥) → Decided (IsWholeNumber found) → Decided (IsTime found)
    by (inl null) whole = inl (0, inl (null, refl))
    by (inr none) (inl (n, is)) = inl (n, inr is)
    by (inr none) (inr other) = inr (neither none other)

pub array_of-or-not : (found : Option (List ℕ)) → Fits found → Decided (IsArray found)
array_of-or-not None fits = inr (λ values is. let e = is.1 in absurd cc)
array_of-or-not (Some value) fits = elim (array-or-not value fits) [
  | inl (values, all, e) ↦ inl (values, (all, ap Some e))
  | inr none ↦ inr (λ values is. none values (same_Some value (array_text values) is.1))
]
