use Rattle.std.proofs.Common.{◌≡◌, ◌∷◌, [], not, ◌&&◌, ◌||◌, insert, sym, ap, ap₂, ◌∙◌, subst, subst₂, arith}
use Rattle.std.proofs.lemmas.List.{length-map}
use Rattle.elem.specs.ElementValue.{ElementValue}
use Rattle.elem_store.specs.Places.{IsGapFor}
use Rattle.elem_store.proofs.CallerLemmas.{element-gap}
use Rattle.links.specs.Rows.{has_row, rows_of}
use Rattle.view.specs.Shown.{as_stored, IsView}
use Rattle.kept_view.specs.inner.Coming.{all_stored, rekeyed, IsComing, IsPlaceFor}
use Rattle.kept_view.specs.inner.Putting.{all_put}
use Rattle.view.specs.Kept.{HaveRowsOf}
use Rattle.kept_view.specs.inner.Replacing.{HaveReplaced}
use Rattle.kept_view.specs.inner.Unsettled.{touched_ids, AreNoted, HaveNoted}
use Rattle.kept_view.specs.inner.Runs.{stored_keys, AreKeysWith}
use Rattle.kept_view.proofs.ComingLaws.{HaveReplaced-with, IsView-with, all-within, fits-with'}
use Rattle.kept_view.proofs.RowLaws.{rows-with}
use Rattle.kept_view.proofs.UnsettledLaws.{others-with}
use Rattle.kept_view.proofs.kept.Kept.come.Goals as goal
use Rattle.kept_view.proofs.kept.Kept.come.Goals.{After-replace-2, After-put_all}

gap : (c : After-put_all) → IsGapFor c.into_parts-live.result.0.items c.args.e.now.id c.in-Err.at
gap c = subst (λ id. IsGapFor c.into_parts-live.result.0.items id c.in-Err.at) c.id.ensures
    (c.in-Err.ensures.absent c.into_parts-live.ensures.are.view.ordered)

place : (c : After-put_all)
    → IsPlaceFor (all_stored c.into_parts-live.result.0.items c.into_parts-live.result.1.items) c.args.e.now
    c.in-Some.place
place c =
    subst (λ (e : ElementValue). IsPlaceFor
    (all_stored c.into_parts-live.result.0.items c.into_parts-live.result.1.items) e c.in-Some.place)
    c.get.ensures c.in-Some.ensures

keys : (c : After-put_all)
    → AreKeysWith (stored_keys c.into_parts-live.result.0.items c.into_parts-live.result.1.items)
    c.args.e.now.index c.in-Some.place c.in-Some-2.rekeying.start c.in-Some-2.rekeying.keys
keys c =
    subst (λ (d : ElementValue). AreKeysWith
    (stored_keys c.into_parts-live.result.0.items c.into_parts-live.result.1.items) d.index c.in-Some.place
    c.in-Some-2.rekeying.start c.in-Some-2.rekeying.keys)
    (c.behind-e.view_is ∙ c.get-2.ensures) (rw c.in-Some-2.is at c.in_ok-rekeying.ensures)

drawn : (c : After-put_all) → IsComing c.into_parts-live.result.0.items c.into_parts-live.result.1.items
    c.args.e.now c.in-Some-3.coming.own c.in-Some-3.coming.puts.items
drawn c = rw c.in-Some-3.is at c.in_ok-coming.ensures

view : (c : After-put_all) → IsView (insert c.into_parts-live.result.0.items c.in-Err.at c.args.e.now)
    (rekeyed c.in-Some-2.rekeying.start c.in-Some-2.rekeying.keys
    (insert (all_put c.in-Some-3.coming.puts.items c.into_parts-live.result.1.items) c.in-Some.place
    c.in-Some-3.coming.own))
view c =
    IsView-with c.into_parts-live.result.0.items c.into_parts-live.result.1.items
    c.into_parts-live.ensures.are.view c.args.e.now c.in-Some-3.coming.own c.in-Err.at c.in-Some.place
    c.in-Some-2.rekeying.start c.in-Some-3.coming.puts.items c.in-Some-2.rekeying.keys
    c.requires (gap c) (place c) (keys c) (drawn c)

replaced : (c : After-put_all) → HaveReplaced c.into_parts-live.result.0.items (c.args.e.now ∷ [])
    (insert c.into_parts-live.result.0.items c.in-Err.at c.args.e.now)
replaced c =
    HaveReplaced-with c.into_parts-live.result.0.items c.into_parts-live.result.1.items
    c.into_parts-live.ensures.are.view c.args.e.now c.in-Some-3.coming.own c.in-Err.at c.in-Some.place
    c.in-Some-2.rekeying.start c.in-Some-3.coming.puts.items c.in-Some-2.rekeying.keys
    c.requires (gap c) (place c) (keys c) (drawn c)

pub touched-requires : goal.touched-requires
touched-requires c =
    let before = (rw c.in-Some-2.is at c.in_ok-rekeying.ensures).begins.before in
    let count = length-map c.into_parts-live.result.1.items (as_stored c.into_parts-live.result.0.items) in
    omega (arith, before, c.in-Some.ensures.within, count)

pub put_all-requires : goal.put_all-requires
put_all-requires c = all-within c.into_parts-live.result.1.items c.in-Some-3.coming.puts.items
    (rw c.in-Some-3.is at c.in_ok-coming.ensures).beside.placed

-- what is touched is noted
noted : (c : After-put_all) → AreNoted c.note_all.new.unsettled
    (insert c.into_parts-live.result.0.items c.in-Err.at c.args.e.now)
    (rekeyed c.in-Some-2.rekeying.start c.in-Some-2.rekeying.keys
    (insert (all_put c.in-Some-3.coming.puts.items c.into_parts-live.result.1.items) c.in-Some.place
    c.in-Some-3.coming.own))
noted c =
    let ids_are = c.in_ok-ids.ensures
    ∙ ap (λ id. touched_ids c.into_parts-live.result.1.items c.in-Some-3.coming.puts.items id
    c.in-Some-2.rekeying.start c.in-Some-2.rekeying.keys) c.id-2.ensures in
    others-with c.into_parts-live.result.0.items c.into_parts-live.result.1.items
    c.into_parts-live.result.3 c.note_all.new.unsettled c.into_parts-live.ensures.are.noted
    c.note_all.ensures.kept
    c.args.e.now c.in-Some-3.coming.own c.in-Some.place c.in-Some-2.rekeying.start c.in-Some-3.coming.puts.items
    c.in-Some-2.rekeying.keys (insert c.into_parts-live.result.0.items c.in-Err.at c.args.e.now)
    (drawn c) (keys c) (replaced c) (subst (λ ids. HaveNoted ids c.note_all.new.unsettled) ids_are
    c.in_ok-note_all.ensures.noted)

pub set_keys-requires : goal.set_keys-requires
set_keys-requires c =
    let d = (goal.at.set_keys-requires c).After-put_all in
    let shown_is =
    c.in_ok-insert.ensures ∙ ap (λ es. insert es c.in-Some.place c.in-Some-3.coming.own) c.put_all.ensures.items in
    rw shown_is
    (fits-with' c.into_parts-live.result.0.items c.into_parts-live.result.1.items
    c.into_parts-live.ensures.are.view c.args.e.now c.in-Some-3.coming.own c.in-Err.at c.in-Some.place
    c.in-Some-2.rekeying.start c.in-Some-3.coming.puts.items c.in-Some-2.rekeying.keys
    c.requires (gap d) (place d) (keys d) (drawn d))

-- the lists once it has come
stored-is : (c : After-replace-2) → c.insert-2.new.elements.items
    ≡ insert c.into_parts-live.result.0.items c.in-Err.at c.args.e.now
stored-is c = c.in_ok-insert-2.ensures
    ∙ ap (λ (x : ElementValue). insert c.into_parts-live.result.0.items c.in-Err.at x) c.in_ok-try_clone.ensures

shown-is : (c : After-replace-2) → c.set_keys.new.elements.items
    ≡ rekeyed c.in-Some-2.rekeying.start c.in-Some-2.rekeying.keys
    (insert (all_put c.in-Some-3.coming.puts.items c.into_parts-live.result.1.items) c.in-Some.place
    c.in-Some-3.coming.own)
shown-is c =
    c.in_ok-set_keys.ensures ∙ ap (rekeyed c.in-Some-2.rekeying.start c.in-Some-2.rekeying.keys)
    (c.in_ok-insert.ensures ∙ ap (λ es. insert es c.in-Some.place c.in-Some-3.coming.own) c.put_all.ensures.items)

pub settle_all-requires : goal.settle_all-requires
settle_all-requires c =
    let at' = goal.at.settle_all-requires c in
    subst₂ IsView (sym (stored-is at'.After-replace-2)) (sym (shown-is at'.After-replace-2)) (view at'.After-put_all)

pub joined-requires : goal.joined-requires
joined-requires c =
    let d = (goal.at.joined-requires c).After-put_all in
    let live_is = stored-is (goal.at.joined-requires c).After-replace-2 in
    let shown_is = shown-is (goal.at.joined-requires c).After-replace-2 in
    let none = element-gap c.into_parts-live.result.0.items c.args.e.now.id c.in-Err.at (gap d) in
    let new_rows = c.in_ok-rows.rows in
    record {
      view = subst₂ IsView (sym live_is) (sym shown_is) (view d);
      table = subst (λ ls. HaveRowsOf ls c.replace-2.new.self.rows) (sym live_is)
          (rows-with c.into_parts-live.result.0.items (insert c.into_parts-live.result.0.items c.in-Err.at
          c.args.e.now) c.args.e.now c.into_parts-live.result.2.rows new_rows c.replace-2.new.self.rows
          c.into_parts-live.ensures.are.table none
          (c.in_ok-rows.ensures.exact ∙ ap rows_of c.get-3.ensures)
          (λ row. c.replace-2.ensures.rows row
          ∙ ap₂ (λ rs ns. has_row new_rows row || (has_row rs row && not (has_row ns row)))
          c.in_ok-reserve.ensures.rows c.new.ensures)
          (replaced d));
      noted = c.settle_all.ensures (subst₂ (AreNoted c.note_all.new.unsettled) (sym live_is) (sym shown_is)
          (noted d));
    }

pub returns : goal.returns
returns c =
    let d = (goal.at.returns c).After-put_all in
    let live_is = stored-is (goal.at.returns c).After-replace-2 in
    subst₂ (λ ls ms. HaveReplaced ls (c.args.e.now ∷ []) ms) c.into_parts-live.ensures.same
    (sym (c.joined.ensures ∙ live_is)) (replaced d)
