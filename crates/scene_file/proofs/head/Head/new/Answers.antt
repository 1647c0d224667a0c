use Rattle.std.proofs.Common.{None, sym, subst, ap₂}
use Rattle.scene_json.proofs.CallerLemmas.{rising_none}
use Rattle.scene_file.specs.Heads.{IsHeading}
use Rattle.scene_file.proofs.head.Head.new.Goals as goal

pub invariant_of-result : goal.invariant_of-result
invariant_of-result c =
    subst IsHeading (ap₂ (λ settings files. record { source = None; app_state = settings; files = files })
    (sym c.new.ensures) (sym c.new-2.ensures))
    (record { ordered = rising_none; nest = tt })
