use Rattle.std.proofs.Common.{None, sym, subst, ap}
use Rattle.scene_json.proofs.CallerLemmas.{rising_none}
use Rattle.scene_file.specs.Heads.{IsHeading}
use Rattle.board_paste.proofs.pasting.head_with.Goals as goal

pub invariant_of-result : goal.invariant_of-result
invariant_of-result c =
    subst IsHeading (ap (λ settings. record { source = None; app_state = settings; files = c.in_ok-files_of.field-0 })
    (sym c.new.ensures))
    (record { ordered = rising_none; nest = tt })
