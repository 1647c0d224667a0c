-- The change is that of the scalar of the name.
use Rattle.std.proofs.Common.{◌≡◌, ◌++◌, [], ◌∷◌, sym, ap, ◌∙◌, subst}
use Rattle.delta.specs.Facts.{IsScalar}
use Rattle.delta.specs.Headers.{header_named, scalar_of}
use Rattle.delta.specs.Parts.{scalar_change}
use Rattle.delta.specs.inner.Told.{AreChangesOf, change_between, with_change}
use Rattle.delta.proofs.ChangeLaws.{OnOk-weaker}
use Rattle.delta.proofs.ToldLaws.{AreChangesOf-more, IsOf, IsOf-scalar, scalar-between}
use Rattle.delta.proofs.differing.note.Goals as goal

pub returns : goal.returns
returns c =
    λ names told.
    let old = c.args.old.now in
    let new = c.args.new.now in
    let name = c.args.name.now in
    let before = c.in_ok-before.before in
    let after = c.in_ok-after.after in
    let o = c.in_ok-scalar_change.field-0 in
    let is : o ≡ scalar_change name before after = c.in_ok-scalar_change.ensures in
    let between : o ≡ change_between old new name =
    is ∙ ap (λ b. scalar_change name b after) c.in_ok-before.ensures.value
    ∙ ap (scalar_change name (scalar_of old name)) c.in_ok-after.ensures.value
    ∙ scalar-between old new name c.requires.free in
    let of = IsOf-scalar new name before after c.requires.free
    (subst (λ kind. IsScalar (header_named kind name) before) c.requires.kind c.in_ok-before.ensures.scalar)
    c.in_ok-after.ensures.scalar in
    OnOk-weaker c.add.result (c.add.new.changes.items ≡ with_change c.args.changes.now.items o)
    (AreChangesOf old new (names ++ name ∷ []) c.add.new.changes.items)
    (λ made. AreChangesOf-more old new names c.args.changes.now.items name told o c.add.new.changes.items between
    (subst (IsOf new name) (sym is) of) made)
    (c.add.ensures told.rise)
