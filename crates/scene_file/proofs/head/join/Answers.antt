use Rattle.std.proofs.Common.{◌++◌, sym, ap₂, subst}
use Rattle.json_text.specs.Members.{pairs}
use Rattle.scene_json.specs.Named.{HaveRisingNames}
use Rattle.file_table.specs.Table.{AreLeastEntries}
use Rattle.scene_file.proofs.Joining.{joined-more}
use Rattle.scene_file.proofs.head.join.Goals as goal

pub returns-clause-joined : goal.returns-clause-joined
returns-clause-joined c =
    let settings = subst (AreLeastEntries (pairs c.head.inside.app_state ++ pairs c.other.inside.app_state))
    (sym c.in_ok-app_state.ensures.exact) c.in_ok-settings.ensures in
    let files = subst (λ given. AreLeastEntries given c.in_ok-files.files)
    (ap₂ (λ xs ys. xs ++ ys) c.in_ok-by_id.ensures.exact c.in_ok-by_id-2.ensures.exact) c.in_ok-files.ensures in
    let rise = subst HaveRisingNames c.in_ok-by_id-2.ensures.exact c.in_ok-by_id-2.ensures.ordered in
    rw (← c.head.view_is, ← c.other.view_is) (λ heads before. joined-more heads _ _ _ c.in_ok-source.ensures settings
    c.other.invariant.ordered files rise before)
