-- What is told of boards and inputs, put together.
use Rattle.std.proofs.Common.{◌≡◌, ℕ, true, false, List, [], ◌∷◌, ◌++◌, Option, length, codes, refl, ap, ◌∙◌, arith}
use Rattle.json_text.specs.Characters.{is_blank}
use Rattle.json_text.specs.Compact.{Member as Pair}
use Rattle.elem.specs.ElementValue.{ElementValue}
use Rattle.checks.specs.Lines.{board_lines, order_line, stand_in_order, text_line}
use Rattle.checks.specs.Reading.{AreTexts}
use Rattle.checks.specs.declared.judged.Judged.{Judged}
use Rattle.checks.specs.declared.judged.Spot.{Spot}

-- equal boards are told the same
pub told-same : (kept known : List ℕ → Option ℕ) (n m : ℕ) (us ws : List ElementValue) (ss ts : List Spot)
    (es fs : List ElementValue) (xs ys : List Pair)
    → kept ≡ known → n ≡ m → us ≡ ws → ss ≡ ts → es ≡ fs → xs ≡ ys
    → board_lines kept n us ss es xs ≡ board_lines known m ws ts fs ys
told-same kept known n m us ws ss ts es fs xs ys a b c d e f =
    λ i. board_lines (a i) (b i) (c i) (d i) (e i) (f i)

-- what stands behind nothing
pub behind-none : (out first made : List ℕ) → out ≡ first ++ made → first ≡ [] → out ≡ made
behind-none out first made h none = h ∙ ap (λ o. o ++ made) none

pub order-told : (kept : List ℕ → Option ℕ) (texts : ℕ) (shown : List ElementValue) → texts ≡ 1
    → stand_in_order kept 0 shown ≡ false → order_line kept texts shown ≡ text_line 1 (codes "order")
order-told kept texts shown one other = rw (one, other) refl

-- no text is read of white space alone
pub none-read : (bytes : List ℕ) (js : List Judged) → AreTexts bytes 1 0 js → length js ≡ 0
    → is_blank bytes ≡ true
none-read bytes [] read none = read
none-read bytes (j ∷ js) read none = absurd (omega (arith, none))
