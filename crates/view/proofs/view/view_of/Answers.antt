use Rattle.std.proofs.Common.{◌≡◌, subst, sym, ap, ◌∙◌}
use Rattle.index_repair.specs.Keyed.{HaveKeysOrNone}
use Rattle.view.specs.Shown.{live_elements, all_as_stored, shown, IsView}
use Rattle.view.proofs.Originals.{all_as_stored-live}
use Rattle.view.proofs.ShownLaws.{live-distinct, live_elements-live, live_elements-rise}
use Rattle.view.proofs.view.view_of.Goals as goal

pub shown_of-requires : goal.shown_of-requires
shown_of-requires c = live-distinct c.args.store.now.elements _ c.in_ok-live.ensures.exact c.in_ok-live.ensures.ordered

exact : (c : goal.In_ok-originals) → c.in_ok-shown.shown ≡ shown (live_elements c.args.store.now.elements)
exact c = c.in_ok-shown.ensures.exact ∙ ap shown c.in_ok-live.ensures.exact

keys : (c : goal.In_ok-originals) → HaveKeysOrNone (live_elements c.args.store.now.elements)
keys c = subst HaveKeysOrNone c.in_ok-live.ensures.exact c.in_ok-shown.ensures.keys

as_stored : (c : goal.In_ok-originals) → all_as_stored c.in_ok-originals.originals c.in_ok-shown.shown
    ≡ live_elements c.args.store.now.elements
as_stored c =
    all_as_stored-live c.args.store.now.elements c.in_ok-originals.originals c.in_ok-live.ensures.ordered
    c.in_ok-shown.shown (keys c) (exact c) c.in_ok-originals.ensures

pub invariant_of-result : goal.invariant_of-result
invariant_of-result c =
    subst (λ live. IsView live c.in_ok-shown.shown) (sym (as_stored c)) (record {
      exact = exact c;
      ordered = live_elements-rise c.args.store.now.elements c.in_ok-live.ensures.ordered;
      all_live = live_elements-live c.args.store.now.elements;
      keys = keys c;
    })

pub returns : goal.returns
returns c = as_stored c.before
