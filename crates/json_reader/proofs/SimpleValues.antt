-- Values that are taken whole.
use Rattle.std.proofs.Common.{◌≡◌, ℕ, true, List, [], ◌∷◌, length, Some, refl, ap, ◌∙◌, inl, inr, arith}
use Rattle.std.specs.List.{AllByRecursion}
use Rattle.std.proofs.lemmas.Bool.{false≢true, lt-ltb}
use Rattle.std.proofs.lemmas.Bool.Decides.{nat_tests}
use Rattle.json_text.specs.Characters.{is_bare, is_plain}
use Rattle.json_text.specs.Tree.{IsWord}
use Rattle.json_text.specs.Value.{extends_number}
use Rattle.json_reader.specs.inner.Machine.{AwaitsComma, Bracket, Square, Curly, Mode, After, Number, Part, Minus, Zero, Whole, Dot, Fraction, Letter, Sign, Exponent, Role, is_complete, part_begun, state, step, IsWholeNumber}
use Rattle.json_reader.specs.inner.Runs.{run}
use Rattle.json_reader.specs.inner.Writing.{AreAlike, IsBareString, IsSimple}
use Rattle.json_reader.specs.declared.staying.Ground.TheVariants as ground
use Rattle.json_reader.proofs.Numbers.{number-runs, number-extends}
use Rattle.json_reader.proofs.PlainStrings.{string-runs}

bare-plain : (xs : List ℕ) → AllByRecursion (λ b. is_bare b ≡ true) xs → AllByRecursion (λ b. is_plain b ≡ true) xs
bare-plain [] bare = tt
bare-plain (x ∷ xs) bare = (let is = bare.0 in grind (arith, nat_tests), bare-plain xs bare.1)

pub string-alike : (bytes : List ℕ) → IsBareString bytes → AreAlike ground.Between bytes
string-alike bytes s = inr (inr (inl (record { text = s.text; plain = bare-plain s.text s.bare; is = s.is })))

-- ---- behind a value a comma may come
value-ends : AwaitsComma After
value-ends Square = refl
value-ends Curly = refl

number-ends : (last : Part) → is_complete last ≡ true → AwaitsComma (Number last)
number-ends Zero e Square = refl
number-ends Zero e Curly = refl
number-ends Whole e Square = refl
number-ends Whole e Curly = refl
number-ends Fraction e Square = refl
number-ends Fraction e Curly = refl
number-ends Exponent e Square = refl
number-ends Exponent e Curly = refl
number-ends Minus e bracket = absurd (false≢true e)
number-ends Dot e bracket = absurd (false≢true e)
number-ends Letter e bracket = absurd (false≢true e)
number-ends Sign e bracket = absurd (false≢true e)

pub string-simple : (bytes : List ℕ) → IsBareString bytes → IsSimple After bytes
string-simple bytes s = record {
  ran = λ st room. rw s.is (string-runs Mode.Value st Role.Value s.text refl s.bare);
  ends = value-ends;
  alike = string-alike bytes s;
}

pub word-simple : (bytes : List ℕ) → IsWord bytes → IsSimple After bytes
word-simple bytes word = record {
  ran = λ st room. grind arith;
  ends = value-ends;
  alike = inr (inr (inr (inl word)));
}

pub empty-simple : IsSimple After (91 ∷ 93 ∷ [])
empty-simple = record {
  ran = λ st room. rw (lt-ltb (length st) 128 room) refl;
  ends = value-ends;
  alike = inr (inr (inr (inr refl)));
}

-- the byte that begins a number
pub number-begins : (b : ℕ) (part : Part) (st : List Bracket) → part_begun b ≡ Some part
    → step 128 Mode.Value st b ≡ state (Number part) st
number-begins b part st e = grind (arith, nat_tests)

pub begun-extends : (b : ℕ) (part : Part) → part_begun b ≡ Some part → extends_number b ≡ true
begun-extends b part e = grind (arith, nat_tests)

pub number-simple : (last : Part) (bytes : List ℕ) → IsWholeNumber last bytes → IsSimple (Number last) bytes
number-simple last bytes n = rw n.is (record {
  ran = λ st room. ap (λ o. run 128 o n.others) (number-begins n.first n.begun st n.begins)
      ∙ number-runs n.begun last st n.others n.goes;
  ends = number-ends last n.ends;
  alike = inr (inl (begun-extends n.first n.begun n.begins, number-extends n.begun last n.others n.goes));
})
