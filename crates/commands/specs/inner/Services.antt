-- What the words of a service and of a drill say. This project's own.
-- Only this crate's own bodies and proofs need it.
use Rattle.std.specs.Prelude.{◌≤◌}
use Rattle.commands.specs.declared.words.Keeping.{Keeping}
use Rattle.commands.specs.declared.words.Service.{Service}

-- Each of its limits is at least 1.
pub record IsService (service : Service) : Type 0 where
  pub links : 1 ≤ service.limits.links
  pub idle : 1 ≤ service.limits.idle
  pub events : 1 ≤ service.limits.events

-- Each of its limits is at least 1.
pub record IsKeeping (keeping : Keeping) : Type 0 where
  pub links : 1 ≤ keeping.limits.links
  pub idle : 1 ≤ keeping.limits.idle
  pub events : 1 ≤ keeping.limits.events
