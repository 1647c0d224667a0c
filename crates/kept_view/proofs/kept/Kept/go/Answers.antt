use Rattle.std.proofs.Common.{◌≡◌, not, ◌&&◌, ◌||◌, remove, slice_get, Some, refl, sym, ap, ◌∙◌, subst, subst₂, ◌<◌, List, length, Option, None, IsSomeAnd, arith, ℕ}
use Rattle.std.proofs.lemmas.Option.{slice_get_within}
use Rattle.elem.specs.ElementValue.{ElementValue}
use Rattle.elem_store.specs.Places.{IsAt}
use Rattle.elem_store.proofs.CallerLemmas.{element-at}
use Rattle.links.specs.Rows.{has_row, rows_of}
use Rattle.view.specs.Shown.{IsView}
use Rattle.kept_view.specs.inner.Coming.{rekeyed, HasGone, IsGoing}
use Rattle.kept_view.specs.inner.Putting.{all_put}
use Rattle.view.specs.Kept.{HaveRowsOf}
use Rattle.kept_view.specs.inner.Unsettled.{touched_ids, AreNoted, HaveNoted}
use Rattle.kept_view.proofs.ComingLaws.{HasGone-without, IsView-without, fits-without', all-within, gone-already}
use Rattle.kept_view.proofs.Redrawn.{at_place}
use Rattle.kept_view.proofs.RowLaws.{rows-without}
use Rattle.kept_view.proofs.UnsettledLaws.{others-without}
use Rattle.kept_view.proofs.kept.Kept.go.Goals as goal
use Rattle.kept_view.proofs.kept.Kept.go.Goals.{After-put_all, After-remove-2}

-- the place of an element is one of the list's
within : (es : List ElementValue) (id : List ℕ) (i : ℕ) → IsAt es id i → i < length es
within es id i is = by (slice_get es i) refl is where
  by : (o : Option ElementValue) → slice_get es i ≡ o → IsSomeAnd o (λ (e : ElementValue). e.id ≡ id) → i < length es
  by None h never = absurd never
  by (Some e) h same = slice_get_within es i e h

pub returns-in_default : goal.returns-in_default
returns-in_default c =
    subst₂ (λ ls ms. HasGone ls c.args.id.now ms) c.into_parts-live.ensures.same (sym c.joined.ensures)
    (gone-already c.into_parts-live.result.0.items c.args.id.now c.in_default.field-0
    c.into_parts-live.ensures.are.view.ordered
    (c.in_default.ensures.absent c.into_parts-live.ensures.are.view.ordered))

pub index-requires : goal.index-requires
index-requires c = omega (
  arith,
  within c.into_parts-live.result.0.items c.args.id.now c.in-Ok.at
      c.in-Ok.ensures.found,
  c.into_parts-live.result.0.ok.0,
)

pub keys_without-requires-clause-within : goal.keys_without-requires-clause-within
keys_without-requires-clause-within c =
    within c.into_parts-live.result.1.items c.get.result.now.id c.in-Some.place c.in-Some.ensures

pub remove-requires-2 : goal.remove-requires-2
remove-requires-2 c = omega (
  arith,
  within c.into_parts-live.result.0.items c.args.id.now c.in-Ok.at
      c.in-Ok.ensures.found,
  c.into_parts-live.result.0.ok.0,
)

held : (c : After-put_all) → (slice_get c.into_parts-live.result.0.items c.in-Ok.at ≡ Some c.index.result.now)
    × (c.index.result.now.id ≡ c.args.id.now)
held c = at_place (λ (d : ElementValue). d.id ≡ c.args.id.now) c.into_parts-live.result.0.items c.in-Ok.at
    c.index.result.now c.in-Ok.ensures.found c.index.ensures

place : (c : After-put_all) → IsAt c.into_parts-live.result.1.items c.index.result.now.id c.in-Some.place
place c = subst (λ (d : ElementValue). IsAt c.into_parts-live.result.1.items d.id c.in-Some.place) (c.get.ensures
    ∙ c.in_ok-e.ensures) c.in-Some.ensures

going : (c : After-put_all) → IsGoing c.into_parts-live.result.0.items c.into_parts-live.result.1.items
    c.index.result.now c.in-Some-3.puts.items
going c = subst (λ (d : ElementValue). IsGoing c.into_parts-live.result.0.items c.into_parts-live.result.1.items
    d c.in-Some-3.puts.items) c.in_ok-e.ensures (rw c.in-Some-3.is at c.in_ok-puts.ensures)

view : (c : After-put_all) → IsView (remove c.into_parts-live.result.0.items c.in-Ok.at)
    (rekeyed c.in-Some-2.rekeying.start c.in-Some-2.rekeying.keys
    (remove (all_put c.in-Some-3.puts.items c.into_parts-live.result.1.items) c.in-Some.place))
view c =
    IsView-without c.into_parts-live.result.0.items c.into_parts-live.result.1.items
    c.into_parts-live.ensures.are.view c.index.result.now c.in-Ok.at c.in-Some.place c.in-Some-2.rekeying.start
    c.in-Some-3.puts.items c.in-Some-2.rekeying.keys
    (held c).0 (place c) (rw c.in-Some-2.is at c.in_ok-rekeying.ensures) (going c)

gone : (c : After-put_all) → HasGone c.into_parts-live.result.0.items c.index.result.now.id
    (remove c.into_parts-live.result.0.items c.in-Ok.at)
gone c =
    HasGone-without c.into_parts-live.result.0.items c.into_parts-live.result.1.items
    c.into_parts-live.ensures.are.view c.index.result.now c.in-Ok.at c.in-Some.place c.in-Some-2.rekeying.start
    c.in-Some-3.puts.items c.in-Some-2.rekeying.keys
    (held c).0 (place c) (rw c.in-Some-2.is at c.in_ok-rekeying.ensures) (going c)

pub touched-requires : goal.touched-requires
touched-requires c =
    let before = (rw c.in-Some-2.is at c.in_ok-rekeying.ensures).begins.before in
    omega (
      arith,
      before,
      within c.into_parts-live.result.1.items c.get.result.now.id c.in-Some.place
          c.in-Some.ensures,
    )

pub put_all-requires : goal.put_all-requires
put_all-requires c = all-within c.into_parts-live.result.1.items c.in-Some-3.puts.items
    (rw c.in-Some-3.is at c.in_ok-puts.ensures).beside.placed

pub set_keys-requires : goal.set_keys-requires
set_keys-requires c =
    let d = (goal.at.set_keys-requires c).After-put_all in
    let shown_is = c.remove.ensures.items ∙ ap (λ es. remove es c.in-Some.place) c.put_all.ensures.items in
    rw shown_is
    (fits-without' c.into_parts-live.result.0.items c.into_parts-live.result.1.items
    c.into_parts-live.ensures.are.view c.index.result.now c.in-Ok.at c.in-Some.place c.in-Some-2.rekeying.start
    c.in-Some-3.puts.items c.in-Some-2.rekeying.keys
    (held d).0 (place d) (rw c.in-Some-2.is at c.in_ok-rekeying.ensures) (going d))

-- what is touched is noted
noted : (c : After-put_all) → AreNoted c.note_all.new.unsettled
    (remove c.into_parts-live.result.0.items c.in-Ok.at)
    (rekeyed c.in-Some-2.rekeying.start c.in-Some-2.rekeying.keys
    (remove (all_put c.in-Some-3.puts.items c.into_parts-live.result.1.items) c.in-Some.place))
noted c =
    let ids_are = c.in_ok-ids.ensures
    ∙ ap (λ n. touched_ids c.into_parts-live.result.1.items c.in-Some-3.puts.items n c.in-Some-2.rekeying.start
    c.in-Some-2.rekeying.keys) (sym (held c).1) in
    others-without c.into_parts-live.result.0.items c.into_parts-live.result.1.items
    c.into_parts-live.result.3 c.note_all.new.unsettled c.into_parts-live.ensures.are.noted
    c.note_all.ensures.kept
    c.index.result.now c.in-Some.place c.in-Some-2.rekeying.start c.in-Some-3.puts.items c.in-Some-2.rekeying.keys
    (remove c.into_parts-live.result.0.items c.in-Ok.at)
    (place c) (going c) (rw c.in-Some-2.is at c.in_ok-rekeying.ensures) (gone c)
    (subst (λ ids. HaveNoted ids c.note_all.new.unsettled) ids_are c.in_ok-note_all.ensures.noted)

-- the lists once it is gone
shown-is : (c : After-remove-2) → c.set_keys.new.elements.items
    ≡ rekeyed c.in-Some-2.rekeying.start c.in-Some-2.rekeying.keys
    (remove (all_put c.in-Some-3.puts.items c.into_parts-live.result.1.items) c.in-Some.place)
shown-is c = c.in_ok-set_keys.ensures
    ∙ ap (rekeyed c.in-Some-2.rekeying.start c.in-Some-2.rekeying.keys) (c.remove.ensures.items
    ∙ ap (λ es. remove es c.in-Some.place) c.put_all.ensures.items)

pub settle_all-requires : goal.settle_all-requires
settle_all-requires c =
    let at' = goal.at.settle_all-requires c in
    subst₂ IsView (sym c.remove-2.ensures.items) (sym (shown-is at'.After-remove-2)) (view at'.After-put_all)

pub joined-requires-2 : goal.joined-requires-2
joined-requires-2 c =
    let d = (goal.at.joined-requires-2 c).After-put_all in
    let live = c.into_parts-live.result.0.items in
    let live_is = c.remove-2.ensures.items in
    let shown_is = shown-is (goal.at.joined-requires-2 c).After-remove-2 in
    let known = element-at live c.into_parts-live.ensures.are.view.ordered c.index.result.now.id c.in-Ok.at
    c.index.result.now (held d).0 refl in
    let old_rows = c.in_ok-rows.rows in
    record {
      view = subst₂ IsView (sym live_is) (sym shown_is) (view d);
      table = subst (λ ls. HaveRowsOf ls c.replace.new.self.rows) (sym live_is)
          (rows-without live (remove live c.in-Ok.at) c.index.result.now c.into_parts-live.result.2.rows old_rows
          c.replace.new.self.rows c.into_parts-live.ensures.are.table known (c.in_ok-rows.ensures.exact
          ∙ ap rows_of (c.get-2.ensures ∙ c.in_ok-e.ensures))
          (λ row. c.replace.ensures.rows row
          ∙ ap (λ ns. has_row ns row || (has_row c.into_parts-live.result.2.rows row
          && not (has_row old_rows row))) c.new.ensures)
          (gone d));
      noted = c.settle_all.ensures (subst₂ (AreNoted c.note_all.new.unsettled) (sym live_is) (sym shown_is)
          (noted (goal.at.joined-requires-2 c).After-put_all));
    }

pub returns : goal.returns
returns c =
    let d = (goal.at.returns c).After-put_all in
    subst₂ (λ ls ms. HasGone ls c.args.id.now ms) c.into_parts-live.ensures.same
    (sym (c.joined-2.ensures ∙ c.remove-2.ensures.items))
    (subst (λ n. HasGone c.into_parts-live.result.0.items n (remove c.into_parts-live.result.0.items c.in-Ok.at))
    (held d).1 (gone d))
