use Rattle.std.proofs.Common.{sym, subst}
use Rattle.commands.specs.inner.Readers.{BoardSoFar, SayBoard}
use Rattle.commands.proofs.Readers.{board-more, later-number}
use Rattle.commands.proofs.taking.GatheredReader.read.Goals as goal

pub returns-clause-read : goal.returns-clause-read
returns-clause-read c texts say =
    let old : BoardSoFar =
    record { heads = c.self.inside.heads; stored = c.self.inside.store.elements; next = c.self.inside.next } in
    let new : BoardSoFar =
    record { heads = c.take.new.self; stored = c.take_list.new.self.elements; next = c.in_ok-next.next } in
    board-more texts c.args.text.now c.in_ok-head.field-0 old new (subst (SayBoard texts) (sym c.self.view_is) say)
    c.in_ok-head.ensures.scene
    c.in_ok-take.ensures c.in_ok-take_list.ensures.stored c.in_ok-next.ensures

pub returns-clause-enough : goal.returns-clause-enough
returns-clause-enough c = later-number c.in_ok-next.next c.self.inside.next c.in_ok-next.ensures c.self.invariant
