-- Each row or member in turn.
use Rattle.std.proofs.Common.{rules, ◌≡◌, ◌∷◌, Ordering, sym, ◌∙◌, length-set, map}
use Rattle.std.proofs.lemmas.List.{nil_from_length}
use Rattle.restore_table.specs.inner.Merged.{row_pair}
use Rattle.restore_table.proofs.Merging.{order_at, within, made-before, made-there, made-behind, made-all}
use Rattle.restore_table.proofs.restoring.fill_up.Goals.{in-Less+in_ok-insert-in-Less, in-Equal, in-Greater}
use Rattle.restore_table.proofs.restoring.fill_up.Goals as goal

first : (c : goal.Joined-order_at) → c.loop-row.left.now ≡ c.in-Some.row.now ∷ c.in-Some.others.now
first c = search rules

ordered : (c : goal.Joined-order_at) (o : Ordering) → c.order_at.result ≡ o
    → order_at (row_pair c.in-Some.row.now) c.loop-row.place c.loop-row.members.items ≡ o
ordered c o is = search rules

pub loop-row-preserved : goal.loop-row-preserved
loop-row-preserved c =
    let ms = c.loop-row.members.items in
    let place = c.loop-row.place in
    let row = row_pair c.in-Some.row.now in
    let rows = map row_pair c.in-Some.others.now in
    let made = rw (first c) at c.loop-row.invariant.made in
    elim c.match-order_at.branch [
      | in-Less+in_ok-insert-in-Less w ↦ rw (w.members-is, w.left-is) (record {
        bound = search rules;
        compact = search rules;
        made = rw w.in_ok-insert-in-Less.ensures.items (made-before place ms w.default_member.result row rows
            c.loop-row.invariant.bound w.default_member.ensures (ordered c _ w.in-Less.is) ∙ made);
      })
      | in-Equal w ↦
          let tied = ordered c _ w.in-Equal.is in
          rw (w.members-is, w.left-is) (record {
            bound = rw (length-set ms place w.fill.new.member) (within row place ms (λ less. cc));
            compact = search rules;
            made = made-there place ms w.index_mut.result.now w.fill.new.member row rows w.index_mut.ensures.value
                w.fill.ensures tied ∙ made;
          })
      | in-Greater w ↦
          let behind = ordered c _ w.in-Greater.is in
          rw (w.members-is, w.left-is) (record {
            bound = within row place ms (λ less. cc);
            compact = search rules;
            made = rw (first c) (made-behind place ms row rows behind ∙ made);
          })
    ]

pub returns : goal.returns
returns c =
    let none = nil_from_length c.loop-row.left.now c.in_default.ensures.cases in
    sym (made-all c.loop-row.place c.loop-row.members.items) ∙ (rw none at c.loop-row.invariant.made)
