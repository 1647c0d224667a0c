-- What is drawn for the events of a drill, from the generator of its seed. This project's own.
-- Only this crate's own bodies and proofs need it.
use Rattle.std.specs.Prelude.{◌<◌}
use Rattle.workload.specs.declared.draws.Draws.{Draws}

-- The numbers are below their limits.
pub record IsDrawn (draws : Draws) : Type 0 where
  pub at : draws.at < 4
  pub row : draws.row < 24
  pub element : draws.element < 200
  pub other : draws.other < 200
  pub capture : draws.capture < 8
