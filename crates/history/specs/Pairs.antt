-- Entries and stacks of parts, and the pairs of elements in full that they stand for. This
-- project's own.
use Rattle.std.specs.Prelude.{List, [], ◌∷◌, reverse}
use Rattle.delta.specs.Delta.{Delta}
use Rattle.delta.specs.Pairs.{Pair, EntryStandsFor}
use Rattle.undo_model.specs.Entries.{IsEntry}

-- The entry stands for the pairs, which are an entry too: each is changed and of elements, in the
-- order of their ids.
pub record IsEntryOf (parts : List Delta) (pairs : List Pair) : Type 0 where
  pub stands : EntryStandsFor parts pairs
  pub entry : IsEntry pairs

-- The entries stand for as many lists of pairs, one for one.
abbrev pub AreEntriesOf : List (List Delta) → List (List Pair) → Type 0
AreEntriesOf [] [] = Unit {0}
AreEntriesOf [] (pairs ∷ others) = ⊥
AreEntriesOf (parts ∷ entries) [] = ⊥
AreEntriesOf (parts ∷ entries) (pairs ∷ others) =
    IsEntryOf parts pairs × AreEntriesOf entries others

-- A stack, its topmost entry last, stands for one of pairs, its topmost entry first.
abbrev pub StackStandsFor : List (List Delta) → List (List Pair) → Type 0
StackStandsFor stack pairs = AreEntriesOf (reverse stack) pairs

-- Pairs that aren't empty become the topmost entry, and what could be redone goes; empty ones
-- change nothing.
abbrev pub with_pairs : List Pair → List (List Pair) → List (List Pair)
with_pairs [] stack = stack
with_pairs (pair ∷ pairs) stack = (pair ∷ pairs) ∷ stack

abbrev pub pairs_left : List Pair → List (List Pair) → List (List Pair)
pairs_left [] stack = stack
pairs_left (pair ∷ pairs) stack = []
