use Rattle.std.proofs.Common.{ap, ◌∙◌}
use Rattle.std.proofs.lemmas.Result.{on_ok_weaker}
use Rattle.elem_store.proofs.CallerLemmas.{AreStored-itself}
use Rattle.undo_model.proofs.CallerLemmas.{taken_all-is}
use Rattle.view.specs.Shown.{live_elements}
use Rattle.kept_view.proofs.live.KeptView.take.Goals as goal

pub returns-clause-view : goal.returns-clause-view
returns-clause-view c =
    let stored = c.args.store.now.elements in
    on_ok_weaker c.renew.result
    (λ is. is
    ∙ ap live_elements (taken_all-is stored stored c.args.changed.now c.in_ok-store.store.elements
    (AreStored-itself stored c.in_ok-store.ensures.ordered) c.in_ok-store.ensures.stored))
    c.renew.ensures.view
