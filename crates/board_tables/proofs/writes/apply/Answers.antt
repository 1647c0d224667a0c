use Rattle.std.proofs.Common.{sym, ◌∙◌}
use Rattle.board_tables.proofs.BoardLemmas.{IsBoard-changed, from_not}
use Rattle.board_tables.proofs.writes.apply.Goals as goal

pub returns : goal.returns
returns c =
    IsBoard-changed c.apply_change.result c.args.write.now c.args.name.now c.args.found.now c.apply_change.new.found
    (from_not _ (sym c.ne.ensures ∙ c.if-ne.false)) c.apply_change.ensures
