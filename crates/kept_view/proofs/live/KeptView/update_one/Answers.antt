use Rattle.std.proofs.Common.{sym, subst}
use Rattle.kept_view.specs.Changes.{AreSameButAt}
use Rattle.view.specs.Shown.{live_elements}
use Rattle.kept_view.proofs.Followed.{updated-redrawn, one_item}
use Rattle.kept_view.proofs.live.KeptView.update_one.Goals as goal

pub returns-in-Some-clause-new : goal.returns-in-Some-clause-new
returns-in-Some-clause-new c ok =
    updated-redrawn c.args.store.now.elements c.args.self.now c.redraw.new.self c.in-Some.new.now c.id-item.result
    c.stored.ensures.ordered
    (subst (λ ids. AreSameButAt ids c.args.self.now (live_elements c.args.store.now.elements))
    (one_item c.args.ids.now c.id-item.result c.in-len1.len_at_least c.in-len1.len_below c.id-item.is) c.requires)
    (sym c.in-Some.ensures.element) (c.redraw.ensures.new ok)
