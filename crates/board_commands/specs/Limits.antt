-- What a command keeps to, as whoever reads it knows. This project's own.
use Rattle.std.specs.Prelude.{◌≡◌, true, false, bytes_eq, codes}
use Rattle.std.specs.List.{list_any}
use Rattle.json_text.specs.Value.{IsCompact}
use Rattle.json_text.specs.declared.text.Member.{Member}
use Rattle.std.specs.Prelude.{List}
use Rattle.frac_keys.specs.Rising.{are_rising}
use Rattle.elem.specs.Facts.{AllNest, names}
use Rattle.elem.specs.Order.{HaveDistinctIds}
use Rattle.board_commands.specs.declared.command.Command.{Command}
use Rattle.board_commands.specs.declared.command.Command.TheVariants as commands

-- The further members of a binding have rising names, none of them `elementId`, and the binding
-- nests at most 100.
pub record IsRest (rest : List Member) : Type 0 where
  pub rise : are_rising (names rest) ≡ true
  pub free : list_any (bytes_eq (codes "elementId")) (names rest) ≡ false
  pub nest : AllNest 99 rest

-- The value of a command nests at most 100, and so does its binding; the ids of elements that it
-- pastes are distinct.
abbrev pub IsWithinLimits : Command → Type 0
IsWithinLimits (commands.Set id member value) = IsCompact 100 value
IsWithinLimits (commands.Bind arrow side target rest) = IsRest rest
IsWithinLimits (commands.Paste elements prefix spot) = HaveDistinctIds elements
IsWithinLimits _ = Unit {0}
