-- The change is that of the member's name.
use Rattle.std.proofs.Common.{◌≡◌, [], ◌∷◌, codes, sym, ap, ◌∙◌, subst}
use Rattle.delta.specs.Parts.{bound_change}
use Rattle.delta.specs.inner.Told.{with_change}
use Rattle.delta.proofs.ChangeLaws.{OnOk-weaker}
use Rattle.delta.proofs.ToldLaws.{AreChangesOf-more, IsOf, IsOf-bound}
use Rattle.delta.proofs.differing.note_bound.Goals as goal

pub returns : goal.returns
returns c =
    let old = c.args.old.now in
    let new = c.args.new.now in
    let o = c.in_ok-bound_change.field-0 in
    let is : o ≡ bound_change old.bound new.bound =
    c.in_ok-bound_change.ensures ∙ ap (λ xs. bound_change xs c.new.inside.bound) (ap (λ e. e.bound) c.old.view_is)
    ∙ ap (bound_change old.bound) (ap (λ e. e.bound) c.new.view_is) in
    OnOk-weaker c.add.result (c.add.new.changes.items ≡ with_change c.args.changes.now.items o) _
    (λ made. AreChangesOf-more old new (codes "groupIds" ∷ []) c.args.changes.now.items (codes "boundElements")
    c.requires o c.add.new.changes.items is
    (subst (IsOf new (codes "boundElements")) (sym is) (IsOf-bound new old.bound new.bound)) made)
    (c.add.ensures c.requires.rise)
