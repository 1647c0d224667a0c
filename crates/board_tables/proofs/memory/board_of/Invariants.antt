use Rattle.std.proofs.Common.{take}
use Rattle.board_tables.specs.Boards.{IsBoard, no_boards, all_written}
use Rattle.board_tables.proofs.memory.board_of.Given as goal

-- the board as the writes before this one make it
abbrev pub invariant-loop-write : goal.invariant-loop-write
invariant-loop-write l =
    let boards = all_written no_boards (take l.write-index l.writes.items) in
    IsBoard (boards.head l.name) (boards.element l.name) l.found
