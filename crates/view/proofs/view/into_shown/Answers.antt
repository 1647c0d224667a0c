use Rattle.std.proofs.Common.{◌≡◌, subst, ◌∙◌}
use Rattle.index_repair.specs.Keyed.{HaveKeysOrNone}
use Rattle.view.specs.Shown.{live_elements, shown}
use Rattle.view.proofs.ShownLaws.{keys-placed, ordered-distinct, shown-keys, shown-ordered, shown-settled}
use Rattle.view.proofs.view.into_shown.Goals as goal

pub settled_of-requires : goal.settled_of-requires
settled_of-requires c =
    ordered-distinct (live_elements c.args.store.elements) _ c.in_ok-ordered.ensures.exact c.in_ok-ordered.ensures.live

pub returns : goal.returns
returns c =
    let live = live_elements c.args.store.elements in
    let exact : c.in_ok-elements.elements ≡ shown live =
    c.in_ok-elements.ensures.exact ∙ shown-ordered live _ c.in_ok-ordered.ensures.exact in
    let keys = keys-placed live (subst HaveKeysOrNone c.in_ok-ordered.ensures.exact c.in_ok-elements.ensures.keys) in
    record {
      exact = exact;
      keys = rw exact (shown-keys live keys);
      settled = rw exact (shown-settled live c.in_ok-ordered.ensures.live keys);
    }
