-- What the words of a service and of a drill say. This project's own.
use Rattle.std.specs.Prelude.{ℕ, ◌≤◌, List, Bool, ◌&&◌, Option, Some, None, nat_le, bytes_eq, decimal, if◌then◌else◌}
use Rattle.std.specs.Str.Parse.{digits_value}
use Rattle.scene_file.specs.declared.layout.Layout.{Layout}
use Rattle.commands.specs.declared.words.Begins.{Begins}
use Rattle.commands.specs.declared.words.Drill.{Drill}
use Rattle.commands.specs.declared.words.Keeping.{Keeping}
use Rattle.commands.specs.declared.words.Service.{Service}

-- how many events other than Idle a room is served at most
abbrev pub most_room_events : ℕ
most_room_events = 1000000000

-- whether a word is a number in plain decimal, at least the one number and at most the other
abbrev pub is_number_within : ℕ → ℕ → List ℕ → Bool
is_number_within least most word =
    bytes_eq word (decimal (digits_value 10 word)) &&
    (nat_le least (digits_value 10 word) && nat_le (digits_value 10 word) most)

-- that number, if the word is one
abbrev pub number_within : ℕ → ℕ → List ℕ → Option ℕ
number_within least most word =
    if is_number_within least most word then Some (digits_value 10 word) else None

-- the service with these numbers in this layout, where all are there
abbrev pub service_of : Option ℕ → Option ℕ → Option ℕ → Option Layout → Option Service
service_of (Some port) (Some links) (Some idle) (Some layout) =
    Some (record {
      port = port;
      limits = record { links = links; idle = idle; events = most_room_events };
      layout = layout;
    })
service_of port links idle layout = None

-- the durable room with these numbers that begins with this, where all are there
abbrev pub keeping_of : Option ℕ → Option ℕ → Option ℕ → Option Begins → Option Keeping
keeping_of (Some port) (Some links) (Some idle) (Some begins) =
    Some (record {
      port = port;
      limits = record { links = links; idle = idle; events = most_room_events };
      begins = begins;
    })
keeping_of port links idle begins = None

-- the drill with these numbers, where both are there
abbrev pub drill_of : Option ℕ → Option ℕ → Option Drill
drill_of (Some seed) (Some events) = Some (record { seed = seed; events = events })
drill_of seed events = None

-- Its numbers are within their limits.
pub record IsDrillWithinLimits (drill : Drill) : Type 0 where
  pub seed : drill.seed ≤ 9007199254740991
  pub some : 1 ≤ drill.events
  pub most : drill.events ≤ 200000
