-- The parts of a command that elements take. This project's own.
use Rattle.std.specs.Str.{IsUtf8}
use Rattle.std.specs.List.{AllByRecursion}
use Rattle.elem.specs.Facts.{IsElement, names}
use Rattle.elem.specs.Said.{AreElements, HasValidTexts}
use Rattle.board_commands.specs.declared.command.Command.{Command}
use Rattle.board_commands.specs.declared.command.Command.TheVariants as commands

-- What a command makes new elements of are such, and the texts that it writes into elements are
-- UTF-8, as their types keep.
abbrev pub IsWrittenCommand : Command → Type 0
IsWrittenCommand (commands.Create element spot) = IsElement element × HasValidTexts element
IsWrittenCommand (commands.Set id member value) = IsUtf8 member
IsWrittenCommand (commands.Bind arrow side target rest) =
    IsUtf8 arrow × IsUtf8 target × AllByRecursion IsUtf8 (names rest)
IsWrittenCommand (commands.Label container text) = IsUtf8 container × IsUtf8 text
IsWrittenCommand (commands.Frame ids frame) = IsUtf8 frame
IsWrittenCommand (commands.Group ids group) = IsUtf8 group
IsWrittenCommand (commands.Duplicate ids prefix spot) = IsUtf8 prefix
IsWrittenCommand (commands.Paste elements prefix spot) = AreElements elements × IsUtf8 prefix
IsWrittenCommand _ = Unit {0}
