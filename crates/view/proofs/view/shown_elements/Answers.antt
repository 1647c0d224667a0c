use Rattle.std.proofs.Common.{◌≡◌, refl, subst, ap, ◌∙◌}
use Rattle.index_repair.specs.Keyed.{HaveKeysOrNone}
use Rattle.view.specs.Shown.{live_elements, shown}
use Rattle.view.proofs.ShownLaws.{live-distinct, shown-keys, shown-settled}
use Rattle.view.proofs.view.shown_elements.Goals as goal
use Rattle.view.proofs.view.shown_elements.Goals.{In_ok-elements}

pub shown_of-requires : goal.shown_of-requires
shown_of-requires c = live-distinct c.args.store.now.elements _ c.in_ok-live.ensures.exact c.in_ok-live.ensures.ordered

exact : (c : In_ok-elements) → c.in_ok-elements.elements ≡ shown (live_elements c.args.store.now.elements)
exact c = c.in_ok-elements.ensures.exact ∙ ap shown c.in_ok-live.ensures.exact

pub returns : goal.returns
returns c =
    let live = live_elements c.args.store.now.elements in
    let distinct = live-distinct c.args.store.now.elements live refl c.in_ok-live.ensures.ordered in
    let keys = subst HaveKeysOrNone c.in_ok-live.ensures.exact c.in_ok-elements.ensures.keys in
    record {
      exact = exact c.before;
      keys = rw (exact c.before) (shown-keys live keys);
      settled = rw (exact c.before) (shown-settled live distinct keys);
    }
