-- What an append leaves that may have stopped midway. Only contracts of private functions cite
-- this. This project's own.
use Rattle.std.specs.Prelude.{◌≡◌, ℕ, List, ◌++◌}

-- The bytes that were there are the first of those that are there now.
pub record Extends (old new : List ℕ) : Type 0 where
  pub more : List ℕ
  pub is : new ≡ old ++ more
