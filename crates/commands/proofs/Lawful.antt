-- A replay that is done wrote the report of a session of which all laws hold.
use Rattle.board_ends.specs.Ends.{SinkEnd, SourceEnd}
use Rattle.commands.specs.Ends.{Span, WasDone}
use Rattle.commands.specs.Replays.{HasLaws, OfAll, WroteLawfulReport}
use Rattle.commands.specs.declared.words.ProgramCommand.TheVariants.{Replay}

pub replay-lawful : OfAll HasLaws → (input : Span SourceEnd) (output : Span SinkEnd) → WasDone Replay input output
    → WroteLawfulReport input output
replay-lawful laws input output done =
    record {
      bytes = done.bytes;
      read = done.read;
      text = done.text;
      replayed = done.answer;
      laws = laws done.bytes done.answer.session done.answer.read;
      took = done.took;
    }
