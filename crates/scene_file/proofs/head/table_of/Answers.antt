use Rattle.std.proofs.Common.{[], sym, subst}
use Rattle.json_text.specs.Members.{pairs}
use Rattle.file_table.specs.Table.{AreLeastEntries}
use Rattle.file_table.proofs.CallerLemmas.{AreLeastEntries-none}
use Rattle.scene_file.proofs.head.table_of.Goals as goal

pub returns : goal.returns
returns c = c.in_ok-take_all-2.ensures (pairs c.args.members.now)
    (c.in_ok-take_all.ensures [] (subst (AreLeastEntries []) (sym c.new-table.ensures) AreLeastEntries-none))
