use Rattle.std.proofs.Common.{◌≡◌, ◌⊎◌, Err, ap, sym, subst}
use Rattle.commands.specs.declared.status.Status.{Status}
use Rattle.commands.specs.declared.status.Status.TheVariants.{Done, Memory}
use Rattle.commands.proofs.Closing.{drilled-whole}
use Rattle.commands.proofs.running.drill_run.Goals as goal

pub returns-in-Err-clause-complete : goal.returns-in-Err-clause-complete
returns-in-Err-clause-complete g c kept =
    subst (λ (s : Status). (s ≡ Done) ⊎ (s ≡ Memory)) (sym c.noted.ensures.status)
    (drilled-whole c.in-Err.fault _ _ c.in-Err.ensures.only (λ wrote. (c.in-Err.ensures.write_fault (ap Err wrote)).1)
    kept)
