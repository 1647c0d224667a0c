-- Faults that are told in an order: each is a question that is answered by no, where those before it are answered by
-- yes.
use Rattle.std.proofs.Common.{◌≡◌, sym, ◌∙◌}

-- One question on the way to a fault: it is answered by no, and this is the fault, or by yes, and the fault comes
-- later.
pub data Asked {F : Type 0} (Yes : Type 0) (known : F) (Later : F → Type 0) (fault : F) : Type 0 where
  no : fault ≡ known → (Yes → ⊥) → Asked Yes known Later fault
  yes : Yes → Later fault → Asked Yes known Later fault

module _ {F : Type 0} (Yes : Type 0) (known : F) (Later : F → Type 0) where
  pub asked-once : (fault other : F) → (Later fault → Later other → fault ≡ other) → Asked Yes known Later fault
      → Asked Yes known Later other → fault ≡ other
  asked-once fault other later (no e one) (no f two) = e ∙ sym f
  asked-once fault other later (no e one) (yes y two) = absurd (one y)
  asked-once fault other later (yes y one) (no e two) = absurd (two y)
  asked-once fault other later (yes x one) (yes y two) = later one two

  pub asked-none : (fault : F) → Yes → (Later fault → ⊥) → Asked Yes known Later fault → ⊥
  asked-none fault y later (no e none) = none y
  asked-none fault y later (yes x one) = later one
