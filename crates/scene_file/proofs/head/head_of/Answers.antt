use Rattle.std.proofs.Common.{◌++◌, codes, subst}
use Rattle.json_text.specs.Members.{pairs}
use Rattle.file_table.specs.Table.{AreLeastEntries}
use Rattle.scene_file.proofs.HeadsTold.{head-told}
use Rattle.scene_file.proofs.Nesting.{nests-value_unless_null}
use Rattle.scene_file.proofs.head.head_of.Goals as goal

pub in_order-requires : goal.in_order-requires
in_order-requires c = nests-value_unless_null (codes "appState") (pairs c.args.members.now) (pairs c.args.settings)
    c.requires.are_members c.requires.settings

pub table_of-requires-clause-nest : goal.table_of-requires-clause-nest
table_of-requires-clause-nest c =
    (nests-value_unless_null (codes "files") (pairs c.args.members.now) (pairs c.args.entries) c.requires.are_members
    c.requires.entries).valued

pub returns : goal.returns
returns c =
    let members = pairs c.args.members.now in
    let entries = pairs c.args.entries in
    head-told members entries _ (pairs c.args.settings) c.in_ok-source.ensures c.requires.settings
    c.in_ok-app_state.ensures.ordered c.in_ok-app_state.ensures.same
    c.requires.entries (nests-value_unless_null (codes "files") members entries c.requires.are_members
    c.requires.entries)
    (subst (λ more. AreLeastEntries (entries ++ pairs more) c.in_ok-files.files) c.new.ensures c.in_ok-files.ensures)
