-- The changes tell of one name more.
use Rattle.std.proofs.Common.{◌≤◌, ◌++◌, ◌∷◌, [], length, take, bytes_eq, add-one, append_assoc, take_all, ap, ◌∙◌, subst, arith}
use Rattle.std.specs.List.{list_any}
use Rattle.elem.specs.Facts.{names}
use Rattle.delta.specs.Facts.{other_names}
use Rattle.delta.specs.inner.Told.{AreChangesOf}
use Rattle.delta.proofs.ToldLaws.{free-at, names-more}
use Rattle.delta.proofs.differing.note_rest.Goals as goal

pub note-requires-clause-free : goal.note-requires-clause-free
note-requires-clause-free c =
    free-at (λ name. list_any (bytes_eq name) other_names) c.as_slice-member-items.result.now c.loop-member.member-index
    c.member-item.result
    (ap (λ ms. list_any (λ name. list_any (bytes_eq name) other_names) (names ms)) (c.as_slice-member-items.ensures
    ∙ c.in_ok-list.ensures) ∙ c.requires.free) (omega arith) (cc)

pub loop-member-preserved : goal.loop-member-preserved
loop-member-preserved c =
    λ known told.
    let ms = c.as_slice-member-items.result.now in
    let i = c.loop-member.member-index in
    let m = c.member-item.result in
    rw add-one
    (subst (λ ns. AreChangesOf c.args.old.now c.args.new.now ns c.note.new.changes.items)
    (append_assoc known (names (take i ms)) (m.name ∷ [])
    ∙ ap (λ ns. known ++ ns) (names-more ms i m (omega arith) (cc)))
    (c.in_ok-note.ensures (known ++ names (take i ms)) (c.loop-member.invariant known told)))

pub returns : goal.returns
returns c =
    λ known told.
    let ms = c.as_slice-member-items.result.now in
    let i = c.loop-member.member-index in
    let all : length ms ≤ i = omega arith in
    subst (λ xs. AreChangesOf c.args.old.now c.args.new.now (known ++ names xs) c.loop-member.changes.items)
    (take_all _ _ all ∙ c.as_slice-member-items.ensures ∙ c.in_ok-list.ensures)
    (c.loop-member.invariant known told)
