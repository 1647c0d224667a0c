-- What faults there are, how a run with one ends, and the line that tells it. This project's own.
use Rattle.std.specs.Prelude.{ℕ, ◌≤◌, List, [], ◌∷◌, ◌++◌, ◌⊎◌, length, take, codes, decimal}
use Rattle.board_base.specs.declared.stop.Stop.TheVariants as stop
use Rattle.board_ends.specs.Counts.{Rose}
use Rattle.board_ends.specs.Ends.{SinkEnd, Took}
use Rattle.clips.specs.Faults.{clip_fault_words, words_of_element}
use Rattle.library.specs.Faults.{lib_fault_words}
use Rattle.room_disk.specs.Faults.{line_fault_words}
use Rattle.scene_file.specs.Faults.{scene_fault_words}
use Rattle.session_text.specs.Faults as sessions
use Rattle.commands.specs.declared.status.Status.{Status}
use Rattle.commands.specs.declared.status.Status.TheVariants as status
use Rattle.commands.specs.declared.status.Fault.{Fault}
use Rattle.commands.specs.declared.status.Fault.TheVariants as fault
use Rattle.commands.specs.declared.status.InputRefusal.TheVariants as refusal

-- the end of a line, U+000A
abbrev pub newline : List ℕ
newline = 10 ∷ []

-- the exit status of each way in which a run ends
abbrev pub code_of : Status → ℕ
code_of status.Done = 0
code_of status.Memory = 1
code_of status.Usage = 2
code_of status.Refused = 3
code_of status.ReadFault = 4
code_of status.WriteFault = 5
code_of status.LinkFault = 6
code_of status.Idle = 7

-- how a run with this fault ends
abbrev pub status_of : Fault → Status
status_of fault.Memory = status.Memory
status_of fault.Usage = status.Usage
status_of fault.Read = status.ReadFault
status_of fault.TooLong = status.Refused
status_of (fault.Refused found) = status.Refused
status_of fault.Write = status.WriteFault

-- the line that tells these words of the text with this number
abbrev pub text_line : ℕ → List ℕ → List ℕ
text_line number words =
    codes "board: text " ++ (decimal number ++ (codes ": " ++ (words ++ newline)))

-- the line that tells a fault
abbrev pub line_of : Fault → List ℕ
line_of fault.Memory = codes "board: out of memory" ++ newline
line_of fault.Usage =
    codes
    "board: usage: restore, merge, state, replay, pictures, drill SEED EVENTS, serve PORT LINKS IDLE, recover, paste PREFIX, library, insert ITEM PREFIX, check"
    ++ newline
line_of fault.Read = codes "board: read fault" ++ newline
line_of fault.TooLong = codes "board: input is longer than 67108864 bytes" ++ newline
line_of (fault.Refused (refusal.Text number found)) = text_line number (scene_fault_words found)
line_of (fault.Refused (refusal.Extra at)) =
    codes "board: extra text at byte " ++ (decimal at ++ newline)
line_of (fault.Refused (refusal.Event number found)) =
    text_line number (sessions.session_fault_words found)
line_of (fault.Refused refusal.TooMany) = codes "board: more than 250000 events" ++ newline
line_of (fault.Refused (refusal.Line number found)) = text_line number (line_fault_words found)
line_of (fault.Refused refusal.NoRecord) = text_line 1 (codes "no record")
line_of (fault.Refused (refusal.Clip found)) = text_line 2 (clip_fault_words found)
line_of (fault.Refused (refusal.Library number found)) = text_line number (lib_fault_words found)
line_of (fault.Refused refusal.NoItem) = text_line 2 (codes "no item")
line_of (fault.Refused (refusal.Exists place)) =
    text_line 2 (words_of_element place (codes "exists"))
line_of fault.Write = codes "board: write fault" ++ newline

-- The notes gained the line, or a first part of it where their count of faults rose.
abbrev pub IsNoted : List ℕ → SinkEnd → SinkEnd → Type 0
IsNoted line before after =
    Took before after line ⊎ ((n : ℕ) × (n ≤ length line) × Took before after (take n line)
    × Rose before.faults after.faults)

-- The notes gained the line of the fault.
abbrev pub Noted : Fault → SinkEnd → SinkEnd → Type 0
Noted fault before after = IsNoted (line_of fault) before after
