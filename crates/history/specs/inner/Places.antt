-- Where the topmost entry that is seen stands in a stack. This project's own.
use Rattle.std.specs.Prelude.{◌≡◌, ℕ, ◌+◌, List, Some, drop, slice_get}
use Rattle.elem.specs.ElementValue.{ElementValue}
use Rattle.delta.specs.Delta.{Delta}
use Rattle.history.specs.Stacks.{AreUnseen}
use Rattle.history.specs.Steps.{IsSeen}

-- the entry at the index is seen, and none behind it is
pub record IsSeenAt (store : List ElementValue) (stack : List (List Delta)) (i : ℕ) : Type 0 where
  pub parts : List Delta
  pub at : slice_get stack i ≡ Some parts
  pub seen : IsSeen store parts
  pub unseen : AreUnseen store (drop (i + 1) stack)
