-- What values are read as, one after the other. What is dropped is this project's own.
use Rattle.std.specs.Prelude.{◌≡◌, ◌⊎◌, ℕ, zero, suc, List, [], ◌∷◌}
use Rattle.elem.specs.ElementValue.{ElementValue}
use Rattle.elem_read.specs.Reading.{IsElementIn, IsSelection, IsFaultIn}
use Rattle.elem_read.specs.declared.fault.ElemFault.{ElemFault}

-- Each value is read as an element, in their order; one of type `selection` is dropped.
abbrev pub AreRead : List (List ℕ) → List ElementValue → Type 0
AreRead [] elements = elements ≡ []
AreRead (value ∷ values) elements =
    (IsSelection value × AreRead values elements)
    ⊎ ((e : ElementValue) × (others : List ElementValue) × (elements ≡ e ∷ others)
    × IsElementIn value e
    × AreRead values others)

-- The value at this place, counted from 0, is the first with a fault; dropped ones count.
abbrev pub IsFirstFaulty : List (List ℕ) → ℕ → ElemFault → Type 0
IsFirstFaulty [] place fault = ⊥
IsFirstFaulty (value ∷ values) zero fault = IsFaultIn value fault
IsFirstFaulty (value ∷ values) (suc place) fault =
    (IsSelection value ⊎ ((e : ElementValue) × IsElementIn value e))
    × IsFirstFaulty values place fault
