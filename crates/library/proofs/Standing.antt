-- Where a text that is an object stands, and what may stand before and behind it.
use Rattle.std.proofs.Common.{◌≡◌, ℕ, List, [], ◌∷◌, ◌++◌, true, refl, sym, ap, ◌∙◌, subst, inl, append-nil, append_assoc, arith}
use Rattle.std.proofs.lemmas.Bool.{and_from}
use Rattle.std.proofs.lemmas.List.Folds.{list_all-append}
use Rattle.json_text.specs.Characters.{is_blank, is_space}
use Rattle.json_text.specs.Compact.{Member as Pair}
use Rattle.json_text.specs.Tree.{IsNumber, scalar}
use Rattle.json_text.specs.Value.{Follows, IsCompact, Stands, Value}
use Rattle.json_text.proofs.CallerLemmas.{Stands-once, head-apart, number-Head, object-compact, object-starts}
use Rattle.elem.specs.Forms.{IsObject}

-- a value alone
alone : (value text : List ℕ) → Value 128 value text → Stands value text []
alone value text v =
    record { blank = []; value = value; parts = sym (append-nil value); space = refl; reads = v; ends = tt }

-- an object is no number, so anything may follow it
object-follows : (value text rest : List ℕ) (members : List Pair) → IsObject text members → Value 128 value text
    → Follows value rest
object-follows value text [] members object v = tt
object-follows value text (b ∷ rest) members object v = λ number.
    let number_is : Value 128 value value =
    record { tree = scalar value; good = inl number; shallow = omega arith; spells = refl; means = refl } in
    let same : text ≡ value = (Stands-once (alone value text v) (alone value value number_is)).0 in
    absurd (head-apart _ value [] _ 123 (number-Head value number) refl (append-nil value
    ∙ (sym same ∙ (object.spelled ∙ (object-starts members).1))))

pub object-first : (text rest : List ℕ) (members : List Pair) → IsObject text members → Stands (text ++ rest) text rest
object-first text rest members object =
    let compact : IsCompact 128 text =
    subst (IsCompact 128) (sym object.spelled) (object-compact 127 members object.are_members) in
    record {
      blank = [];
      value = text;
      parts = refl;
      space = refl;
      reads = compact;
      ends =
          object-follows text text rest members object compact;
    }

pub object-before : (bytes text rest more : List ℕ) (members : List Pair) → IsObject text members
    → Stands bytes text rest → Stands (bytes ++ more) text (rest ++ more)
object-before bytes text rest more members object s = record {
  blank = s.blank;
  value = s.value;
  parts = ap (λ b. b ++ more) s.parts
      ∙ (append_assoc s.blank (s.value ++ rest) more ∙ ap (λ b. s.blank ++ b) (append_assoc s.value rest more));
  space = s.space;
  reads = s.reads;
  ends = object-follows s.value text (rest ++ more) members object s.reads;
}

pub Stands-behind_blank : (blank bytes text rest : List ℕ) → is_blank blank ≡ true → Stands bytes text rest
    → Stands (blank ++ bytes) text rest
Stands-behind_blank blank bytes text rest space s = record {
  blank = blank ++ s.blank;
  value = s.value;
  parts = ap (λ b. blank ++ b) s.parts ∙ sym (append_assoc blank s.blank (s.value ++ rest));
  space = list_all-append is_space blank s.blank ∙ and_from (is_blank blank) (is_blank s.blank) space s.space;
  reads = s.reads;
  ends = s.ends;
}
