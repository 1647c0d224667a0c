-- What is made of the texts of a session, which are taken one after the other. This project's own.
-- Only this crate's own bodies and proofs need it.
use Rattle.std.specs.Prelude.{◌≡◌, ℕ, List, Option, Some, None}
use Rattle.session_text.specs.Events.{header}
use Rattle.session_text.specs.Sessions.{LeadTo}
use Rattle.session_text.specs.declared.session.Session.{Session}

-- The texts of the session so far lead up to the offset.
abbrev pub LeadsUpTo : List ℕ → Option Session → ℕ → Type 0
LeadsUpTo bytes None at = at ≡ 0
LeadsUpTo bytes (Some session) at =
    LeadTo bytes (header session.replicas session.seed session.scene) session.events at
