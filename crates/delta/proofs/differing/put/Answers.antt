-- The change is put where its name belongs.
use Rattle.std.proofs.Common.{◌≡◌, set, insert, true, sym, ap, ◌∙◌, if◌then◌else◌}
use Rattle.frac_keys.specs.Rising.{are_rising}
use Rattle.delta.specs.Facts.{name_of, change_names}
use Rattle.delta.specs.Placed.{with_item}
use Rattle.delta.proofs.Placing.{put-at}
use Rattle.delta.proofs.differing.put.Goals as goal
use Rattle.delta.proofs.differing.put.Goals.{After-is_same_at}

placed : (c : After-is_same_at) → are_rising (change_names c.args.changes.now.items) ≡ true
    → with_item name_of c.args.change c.args.changes.now.items
    ≡ (if c.is_same_at.result then set c.args.changes.now.items c.place_of-place.result c.args.change else insert
    c.args.changes.now.items c.place_of-place.result c.args.change)
placed c rise =
    let cs = c.args.changes.now.items in
    let same = c.deref.ensures.value in
    put-at name_of c.args.change cs c.place_of-place.result (rw same at c.place_of-place.ensures.before rise)
    (rw same at c.place_of-place.ensures.behind rise)
    ∙ ap (λ b. if b then set cs c.place_of-place.result c.args.change else insert cs c.place_of-place.result
    c.args.change) (sym c.is_same_at.ensures)

pub returns-then-is_same_at : goal.returns-then-is_same_at
returns-then-is_same_at c rise =
    let cs = c.args.changes.now.items in
    sym (placed (goal.at.returns-then-is_same_at c).After-is_same_at rise
    ∙ ap (λ b. if b then set cs c.place_of-place.result c.args.change else insert cs c.place_of-place.result
    c.args.change) c.if-is_same_at.true)

pub returns-in_ok-insert : goal.returns-in_ok-insert
returns-in_ok-insert c rise =
    let cs = c.args.changes.now.items in
    c.in_ok-insert.ensures.items
    ∙ sym (placed (goal.at.returns-in_ok-insert c).After-is_same_at rise
    ∙ ap (λ b. if b then set cs c.place_of-place.result c.args.change else insert cs c.place_of-place.result
    c.args.change) c.if-is_same_at.false)
