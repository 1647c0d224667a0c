use Rattle.std.proofs.Common.{◌≡◌, ◌+◌, drop}
use Rattle.std.specs.List.{prefix_len}
use Rattle.input_texts.specs.Lines.{is_within_line}
use Rattle.input_texts.proofs.line.line_end.Given as goal

-- before i is no line feed
abbrev pub invariant-loop-i : goal.invariant-loop-i
invariant-loop-i l = prefix_len is_within_line l.piece ≡ l.i + prefix_len is_within_line (drop l.i l.piece)
