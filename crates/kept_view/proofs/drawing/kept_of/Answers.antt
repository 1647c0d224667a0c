use Rattle.std.proofs.Common.{◌≡◌, true, sym, ap, ◌∙◌, subst}
use Rattle.frac_keys.specs.Rising.{are_rising}
use Rattle.elem_store.specs.Updates.{ids_of}
use Rattle.elem.specs.Order.{HaveDistinctIds}
use Rattle.index_repair.specs.Keyed.{HaveKeysOrNone}
use Rattle.view.specs.Shown.{live_elements, shown, IsView}
use Rattle.view.proofs.CallerLemmas.{HaveDistinctIds-rising, live_elements-live, live_elements-rise}
use Rattle.kept_view.proofs.drawing.kept_of.Goals as goal
use Rattle.kept_view.proofs.drawing.kept_of.Goals.{After-table_of}

pub shown_of-requires : goal.shown_of-requires
shown_of-requires c =
    subst HaveDistinctIds (sym (c.from_vec.ensures ∙ (c.in_ok-elements_copied.ensures ∙ c.in_ok-stored.ensures.exact)))
    (HaveDistinctIds-rising (live_elements c.args.store.now.elements)
    (live_elements-rise c.args.store.now.elements c.in_ok-stored.ensures.ordered))

pub all_shared_with-requires : goal.all_shared_with-requires
all_shared_with-requires c =
    subst (λ es. are_rising (ids_of es) ≡ true) (sym (c.in_ok-live.ensures ∙ c.in_ok-stored.ensures.exact))
    (live_elements-rise c.args.store.now.elements c.in_ok-stored.ensures.ordered)

pub table_of-requires : goal.table_of-requires
table_of-requires c =
    subst HaveDistinctIds (sym (c.in_ok-live.ensures ∙ c.in_ok-stored.ensures.exact))
    (HaveDistinctIds-rising (live_elements c.args.store.now.elements)
    (live_elements-rise c.args.store.now.elements c.in_ok-stored.ensures.ordered))

view : (c : After-table_of) → IsView c.in_ok-live.live.items c.in_ok-shown-2.shown.items
view c =
    let stored = c.args.store.now.elements in
    let copy = c.from_vec.ensures ∙ c.in_ok-elements_copied.ensures in
    subst (λ live. IsView live c.in_ok-shown-2.shown.items) (sym (c.in_ok-live.ensures ∙ c.in_ok-stored.ensures.exact))
    (record {
      exact = c.in_ok-shown-2.ensures ∙ c.into_vec.ensures
          ∙ (c.in_ok-shown.ensures.exact ∙ ap shown (copy ∙ c.in_ok-stored.ensures.exact));
      ordered = live_elements-rise stored c.in_ok-stored.ensures.ordered;
      all_live = live_elements-live stored;
      keys = subst HaveKeysOrNone (copy ∙ c.in_ok-stored.ensures.exact) c.in_ok-shown.ensures.keys;
    })

pub unsettled_of-requires : goal.unsettled_of-requires
unsettled_of-requires c = view (goal.at.unsettled_of-requires c).After-table_of

pub invariant_of-result : goal.invariant_of-result
invariant_of-result c =
    record {
      view = view (goal.at.invariant_of-result c).After-table_of;
      table = c.in_ok-table.ensures;
      noted = c.in_ok-unsettled.ensures;
    }
