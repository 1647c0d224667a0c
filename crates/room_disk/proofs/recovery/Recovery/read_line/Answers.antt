use Rattle.std.proofs.lemmas.Result.{on_ok_weaker}
use Rattle.room_disk.proofs.Taking.{read-further}
use Rattle.room_disk.proofs.recovery.Recovery.read_line.Goals as goal

pub returns-else-self-eq0-clause-read : goal.returns-else-self-eq0-clause-read
returns-else-self-eq0-clause-read c =
    let old = c.args.self.now in
    on_ok_weaker c.take_update.result
    (λ taken lines long kept. read-further lines c.args.line.now old.head old.store.elements
    c.take_update.new.store.elements old.lines long c.if-self-eq0.false kept taken)
    c.take_update.ensures.taken
