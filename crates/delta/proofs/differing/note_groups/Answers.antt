-- The change is that of the member's name.
use Rattle.std.proofs.Common.{◌≡◌, [], codes, sym, ap, ◌∙◌, subst}
use Rattle.delta.specs.Parts.{groups_change}
use Rattle.delta.specs.inner.Told.{with_change}
use Rattle.delta.proofs.ChangeLaws.{OnOk-weaker}
use Rattle.delta.proofs.ToldLaws.{AreChangesOf-more, IsOf, IsOf-groups}
use Rattle.delta.proofs.differing.note_groups.Goals as goal

pub returns : goal.returns
returns c =
    let old = c.args.old.now in
    let new = c.args.new.now in
    let o = c.in_ok-groups_change.field-0 in
    let is : o ≡ groups_change old.groups new.groups =
    c.in_ok-groups_change.ensures ∙ ap (λ xs. groups_change xs c.new.inside.groups) (ap (λ e. e.groups) c.old.view_is)
    ∙ ap (groups_change old.groups) (ap (λ e. e.groups) c.new.view_is) in
    OnOk-weaker c.add.result (c.add.new.changes.items ≡ with_change c.args.changes.now.items o) _
    (λ made. AreChangesOf-more old new [] c.args.changes.now.items (codes "groupIds") c.requires o
    c.add.new.changes.items is (subst (IsOf new (codes "groupIds")) (sym is)
    (IsOf-groups new old.groups new.groups)) made)
    (c.add.ensures c.requires.rise)
