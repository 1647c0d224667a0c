use Rattle.std.specs.Prelude.{◌≡◌, ℕ, ◌+◌, ◌≤◌, List, length, Result, Err, OnOk, OnErr}
use Rattle.board_base.specs.declared.stop.Stop.{Stop}
use Rattle.board_base.specs.declared.stop.Stop.TheVariants.{Fault}
use Rattle.board_ends.specs.Counts.{Rose}
use Rattle.board_ends.specs.Ends.{SourceEnd, Gave, IsAtEnd}
use Rattle.board_ends.specs.declared.whole.ReadError.{ReadError}
use Rattle.board_ends.specs.declared.whole.ReadError.TheVariants.{Failed, TooLong}

-- How a source is left that was read up to its end, or to a failure, or to the byte after so many,
-- by what came of it. This project's own.
pub record IsReadWithin {A : Type 0} (limit : ℕ) (before after : SourceEnd)
    (result : Result A (Stop ReadError)) : Type 0 where
  pub end : OnOk result (IsAtEnd after)
  pub failed : result ≡ Err (Fault Failed) → Rose before.faults after.faults
  pub failed_within : result ≡ Err (Fault Failed)
      → (some : List ℕ) × (length some ≤ limit) × Gave before after some
  pub too_long : result ≡ Err (Fault TooLong)
      → (some : List ℕ) × (length some ≡ limit + 1) × Gave before after some
  pub stopped : OnErr result ((some : List ℕ) × (length some ≤ limit + 1)
      × Gave before after some)
  pub counted : before.faults ≤ after.faults
