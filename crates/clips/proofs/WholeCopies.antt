-- Copies of whole elements are whole.
use Rattle.std.proofs.Common.{ℕ, Bool, List, All, IsUtf8}
use Rattle.elem.specs.ElementValue.{ElementValue}
use Rattle.elem_read.specs.Reading.{IsWholeElement}
use Rattle.elem_read.proofs.CallerLemmas.{IsSound, IsSound-read, IsSound-whole}
use Rattle.copies.specs.Copies.{copies_of, copy_among, is_among}
use Rattle.copies.proofs.CallerLemmas.{all-copied, element-copied, texts-copied}

sound-copied : (among : List ℕ → Bool) (prefix : List ℕ) → IsUtf8 prefix → (e : ElementValue) → IsSound e
    → IsSound (copy_among among prefix e)
unfolding copy_among
sound-copied among prefix text e sound = record {
  restored = sound.restored;
  is_element = element-copied among prefix e sound.is_element;
  written = texts-copied among prefix text e sound.written;
  rest = sound.rest;
  lack = sound.lack;
}

whole-copied : (among : List ℕ → Bool) (prefix : List ℕ) → IsUtf8 prefix → (e : ElementValue) → IsWholeElement e
    → IsWholeElement (copy_among among prefix e)
whole-copied among prefix text e whole =
    IsSound-whole (copy_among among prefix e) (sound-copied among prefix text e (IsSound-read _ e whole))

pub copies-whole : (list : List ElementValue) (prefix : List ℕ) → IsUtf8 prefix → All IsWholeElement list
    → All IsWholeElement (copies_of list prefix)
unfolding copies_of
copies-whole list prefix text all =
    all-copied (is_among list) prefix IsWholeElement (whole-copied (is_among list) prefix text) list all
