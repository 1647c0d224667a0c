use Rattle.std.proofs.Common.{◌≡◌, ap, ◌∙◌, sym, subst}
use Rattle.undo_model.specs.Carrying.{taken, taken_all}
use Rattle.undo_model.proofs.CallerLemmas.{taken-has}
use Rattle.kept_view.specs.inner.Changes.{HasRedrawn}
use Rattle.view.specs.Shown.{live_elements}
use Rattle.kept_view.proofs.Followed.{not-taken, taken-redrawn, one_item}
use Rattle.kept_view.proofs.live.KeptView.take_one.Goals as goal
use Rattle.kept_view.proofs.live.KeptView.take_one.Goals.{After-is_taken}

-- the store takes one element
one : (c : After-is_taken) → taken_all c.args.changed.now c.args.store.now.elements
    ≡ taken c.new-item.result c.args.store.now.elements
one c = ap (λ changed. taken_all changed c.args.store.now.elements)
    (one_item c.args.changed.now c.new-item.result c.in-len1.len_at_least c.in-len1.len_below c.new-item.is)

pub returns-then-not-is_taken-clause-new : goal.returns-then-not-is_taken-clause-new
returns-then-not-is_taken-clause-new c ok =
    c.requires
    ∙ ap live_elements (sym (not-taken c.new-item.result c.args.store.now.elements (sym c.is_taken.ensures.taken
    ∙ c.if-not-is_taken.true))
    ∙ sym (one (goal.at.returns-then-not-is_taken-clause-new c).After-is_taken))

pub returns-clause-new : goal.returns-clause-new
returns-clause-new c ok =
    let stored = c.args.store.now.elements in
    let e = c.new-item.result in
    taken-redrawn stored (taken e stored) e c.is_taken.ensures.ordered (taken-has stored e c.is_taken.ensures.ordered)
    c.redraw.new.self (sym c.is_taken.ensures.taken ∙ c.if-not-is_taken.false)
    (subst (λ live. HasRedrawn live e c.redraw.new.self) c.requires (c.redraw.ensures.new ok))
    ∙ ap live_elements (sym (one (goal.at.returns-clause-new c).After-is_taken))
