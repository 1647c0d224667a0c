use Rattle.std.proofs.Common.{ap, ◌∙◌}
use Rattle.elem_store.specs.Updates.{is_among}
use Rattle.elem_store.proofs.CallerLemmas.{is_at-among}
use Rattle.reconcile.proofs.held.Held.has.Goals as goal

pub returns-clause-exact : goal.returns-clause-exact
returns-clause-exact c = c.contains.ensures ∙ is_at-among c.args.id.now c.self.inside.ids.keys
    ∙ ap (λ ids. is_among ids c.args.id.now) c.self.view_is
