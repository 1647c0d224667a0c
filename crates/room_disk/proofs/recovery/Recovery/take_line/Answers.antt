use Rattle.std.proofs.Common.{refl, sym, ◌∙◌}
use Rattle.room_disk.proofs.Taking.{take-more}
use Rattle.room_disk.proofs.recovery.Recovery.take_line.Goals as goal

pub returns-then-is_some : goal.returns-then-is_some
returns-then-is_some c =
    let old = c.args.self.now in
    λ lines to. take-more lines c.args.line.now old old old.fault (sym c.is_some.ensures
    ∙ c.if-is_some.true) refl refl to
