use Rattle.std.proofs.Common.{not, ◌&&◌, ◌||◌, ◌++◌, ap, ap₂, ◌∙◌, subst}
use Rattle.elem_store.specs.Updates.{ids_of}
use Rattle.links.specs.Rows.{has_row}
use Rattle.kept_view.specs.inner.Putting.{all_put}
use Rattle.kept_view.specs.inner.Replacing.{HaveReplaced}
use Rattle.kept_view.specs.inner.Unsettled.{HaveNoted}
use Rattle.kept_view.proofs.ComingLaws.{all-within}
use Rattle.kept_view.proofs.UnsettledLaws.{others-kept}
use Rattle.kept_view.proofs.LiveLaws.{IsKeptView-after, IsView-after, replaced}
use Rattle.kept_view.proofs.kept.Kept.replace_all.Goals as goal

pub invariant_of-self-in_err-note_all : goal.invariant_of-self-in_err-note_all
invariant_of-self-in_err-note_all c = rw c.reserve.ensures.rows (record {
  view = c.self.invariant.view;
  table = c.self.invariant.table;
  noted = others-kept c.self.inside.live.items c.self.inside.shown.items c.self.inside.unsettled
      c.note_all.new.unsettled c.self.invariant.noted c.note_all.ensures.kept;
})

pub put_all-requires : goal.put_all-requires
put_all-requires c =
    all-within c.self.inside.live.items c.in-Some.held.items (rw c.in-Some.is at c.in_ok-held.ensures).1

pub put_all-requires-2 : goal.put_all-requires-2
put_all-requires-2 c =
    all-within c.self.inside.shown.items c.in-Some-2.shown.items (rw c.in-Some-2.is at c.in_ok-shown.ensures).placed

pub settle_all-requires : goal.settle_all-requires
settle_all-requires c =
    let held = rw c.in-Some.is at c.in_ok-held.ensures in
    let repairs = rw c.in-Some-2.is at c.in_ok-shown.ensures in
    rw (c.put_all.ensures.items, c.put_all-2.ensures.items)
    (IsView-after c.self.inside.live.items c.self.inside.shown.items c.args.news.now.items c.in-Some.held.items
    c.in-Some-2.shown.items c.self.inside.table.rows c.self.inside.unsettled c.self.invariant c.requires.ordered
    c.requires.live
    held.0 held.1 repairs)

pub invariant_of-self-2 : goal.invariant_of-self-2
invariant_of-self-2 c =
    let held = rw c.in-Some.is at c.in_ok-held.ensures in
    let repairs = rw c.in-Some-2.is at c.in_ok-shown.ensures in
    rw (c.put_all.ensures.items, c.put_all-2.ensures.items)
    (IsKeptView-after c.self.inside.live.items c.self.inside.shown.items c.args.news.now.items c.in-Some.held.items
    c.in-Some-2.shown.items c.self.inside.table.rows c.self.inside.unsettled c.self.invariant c.requires.ordered
    c.requires.live
    held.0 held.1 repairs c.in_ok-old_rows.old_rows c.in_ok-rows.rows c.replace.new.self.rows c.note_all.new.unsettled
    c.settle_all.new.unsettled (rw c.in_ok-held_of.ensures at c.in_ok-old_rows.ensures) c.in_ok-rows.ensures
    (λ row. c.replace.ensures.rows row ∙ ap (λ rows. has_row c.in_ok-rows.rows row
    || (has_row rows row && not (has_row c.in_ok-old_rows.old_rows row))) c.reserve.ensures.rows)
    c.note_all.ensures.kept
    (subst (λ ids. HaveNoted ids c.note_all.new.unsettled)
    (c.in_ok-add_ids.ensures ∙ ap₂ (λ xs es. xs ++ ids_of es) c.in_ok-ids.ensures c.as_slice-2.ensures.value)
    c.in_ok-note_all.ensures.noted)
    (rw (c.put_all.ensures.items, c.put_all-2.ensures.items) at c.settle_all.ensures))

pub returns-clause-new : goal.returns-clause-new
returns-clause-new c ok =
    let held = rw c.in-Some.is at c.in_ok-held.ensures in
    let repairs = rw c.in-Some-2.is at c.in_ok-shown.ensures in
    rw c.put_all.ensures.items
    (subst (λ live. HaveReplaced live c.args.news.now.items (all_put c.in-Some.held.items c.self.inside.live.items))
    c.self.view_is
    (replaced c.self.inside.live.items c.self.inside.shown.items c.args.news.now.items c.in-Some.held.items
    c.in-Some-2.shown.items c.self.inside.table.rows c.self.inside.unsettled c.self.invariant c.requires.ordered
    c.requires.live
    held.0 held.1 repairs))
