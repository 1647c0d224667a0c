use Rattle.std.proofs.Common.{sym, ◌∙◌}
use Rattle.file_table.proofs.Tables.{by_id-taken, by_id-kept, HaveFiles-insert}
use Rattle.file_table.proofs.table.keep_lesser.Goals as goal

pub returns-in_ok-insert-clause-taken : goal.returns-in_ok-insert-clause-taken
returns-in_ok-insert-clause-taken c =
    let old = c.args.entries.now.entries in
    let new = c.insert.new.self.entries in
    let e = c.in_ok-insert.ensures in
    by_id-taken old new c.args.id c.args.entry c.requires.table
    (HaveFiles-insert old new c.args.id c.args.entry c.requires.table c.requires.nest e.entries e.unique)
    (sym c.takes_place.ensures ∙ c.if-takes_place.true) e.updates.0

pub returns-in_ok-insert-clause-table : goal.returns-in_ok-insert-clause-table
returns-in_ok-insert-clause-table c =
    let e = c.in_ok-insert.ensures in
    HaveFiles-insert c.args.entries.now.entries c.insert.new.self.entries c.args.id c.args.entry c.requires.table
    c.requires.nest e.entries e.unique

pub returns-else-takes_place-clause-taken : goal.returns-else-takes_place-clause-taken
returns-else-takes_place-clause-taken c =
    by_id-kept c.args.entries.now.entries c.args.id c.args.entry c.requires.table (sym c.takes_place.ensures
    ∙ c.if-takes_place.false)
