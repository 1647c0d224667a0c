use Rattle.std.proofs.Common.{sym, ap, subst, ◌∙◌}
use Rattle.json_text.specs.Members.{pairs}
use Rattle.scene_json.specs.Named.{HaveRisingNames}
use Rattle.file_table.specs.Table.{EntriesNest}
use Rattle.file_table.proofs.ById.{rising-by_id, nest-by_id}
use Rattle.file_table.proofs.files.Files.by_id.Goals as goal

pub returns-clause-ordered : goal.returns-clause-ordered
returns-clause-ordered c =
    subst HaveRisingNames (sym (ap pairs c.from_vec.ensures ∙ c.in_ok-members_by_id.ensures))
    (rising-by_id c.self.inside.entries.entries c.self.invariant.distinct)

pub returns-clause-nest : goal.returns-clause-nest
returns-clause-nest c =
    subst (EntriesNest 126) (sym (ap pairs c.from_vec.ensures ∙ c.in_ok-members_by_id.ensures))
    (nest-by_id 126 c.self.inside.entries.entries c.self.invariant.nest)
