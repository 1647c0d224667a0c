use Rattle.std.proofs.Common.{take, get_or, sym, ap, ◌∙◌, subst, ◌<◌, length, arith}
use Rattle.board_tables.specs.Boards.{Boards, IsBoard, no_boards, all_written, written}
use Rattle.board_tables.proofs.BoardLemmas.{all_written-next}
use Rattle.board_tables.proofs.memory.board_of.Goals as goal

pub loop-write-preserved : goal.loop-write-preserved
loop-write-preserved c =
    let writes = c.args.writes.now.items in
    let before = all_written no_boards (take c.loop-write.write-index writes) in
    let inside : c.loop-write.write-index < length writes = omega (arith, c.loop-write-test.true, c.deref-write-items.ensures.len, c.args.writes.now.ok.0) in
    let next = all_written-next no_boards writes c.loop-write.write-index c.write-item.result inside
    ∙ ap (written before) (ap (λ ws. get_or ws c.loop-write.write-index c.write-item.result) (sym c.deref-write-items.ensures.value) ∙ sym c.write-item.is) in
    subst (λ (boards : Boards). IsBoard (boards.head c.args.name.now) (boards.element c.args.name.now) c.apply.new.found)
    (sym next) (c.in_ok-apply.ensures before c.loop-write.invariant)
