use Rattle.std.specs.Prelude.{ℕ, List, [], ◌∷◌, Option, Some}
use Rattle.board_ends.specs.CallNumbers.{CallNumbers}
use Rattle.board_ends.specs.Ends.{LinksEnd}
use Rattle.board_ends.specs.declared.links.LinkEvent.{LinkEvent}
use Rattle.board_ends.specs.declared.links.LinkEvent.TheVariants.{Idle}

-- A script of events: those still to come, and those given. This project's own.
pub record ScriptState : Type 0 where
  pub coming : List LinkEvent
  pub given : List LinkEvent

-- the first of the coming events, and Idle after the last
abbrev pub next_event : List LinkEvent → LinkEvent
next_event [] = Idle
next_event (event ∷ coming) = event

-- Links over a script: the port, how many calls of listen there were, the events, the pairs of link
-- and text that were sent, for each send whose link was gone the number of texts sent before it and
-- the link, the calls of listen and next, the calls of send, and the counts of faults and of links
-- gone. This project's own.
pub record ScriptLinksState : Type 0 where
  pub port : Option ℕ
  pub listens : ℕ
  pub script : ScriptState
  pub sent : List (ℕ × List ℕ)
  pub lost : List (ℕ × ℕ)
  pub calls : CallNumbers
  pub sends : CallNumbers
  pub faults : ℕ
  pub gone : ℕ

-- what is seen of them: they tell all events given, all texts sent and all that were lost
abbrev pub script_end : ScriptLinksState → LinksEnd
script_end links = record {
  port = links.port;
  listens = links.listens;
  given = Some links.script.given;
  sent = Some links.sent;
  lost = Some links.lost;
  faults = links.faults;
  gone = links.gone;
}
