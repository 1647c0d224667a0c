use Rattle.std.proofs.Common.{◌≡◌, map, ap, ◌∙◌, subst}
use Rattle.index_repair.specs.Repair.{repaired}
use Rattle.index_repair.specs.Keyed.{index_of, keyed, HaveKeysOrNone}
use Rattle.view.specs.Shown.{in_scene_order, placed}
use Rattle.view.proofs.CallerLemmas.{keys-placed, placed-distinct}
use Rattle.kept_view.proofs.drawing.placed_of.Goals as goal

sorted : (c : goal.After-from_vec) → c.sort.new.elements.items ≡ in_scene_order c.args.live
sorted c = c.in_ok-sort.ensures ∙ ap in_scene_order c.into_vec-elements.ensures

pub returns-clause-exact : goal.returns-clause-exact
unfolding placed
returns-clause-exact c =
    c.from_vec.ensures ∙ (c.in_ok-with_repaired_keys.ensures.exact
    ∙ ap (λ es. keyed es (repaired (map index_of es))) (sorted c))

pub returns-clause-keys : goal.returns-clause-keys
returns-clause-keys c =
    keys-placed c.args.live (subst HaveKeysOrNone (sorted c) c.in_ok-with_repaired_keys.ensures.old_keys)

pub returns-clause-distinct : goal.returns-clause-distinct
returns-clause-distinct c =
    rw (returns-clause-exact c) (placed-distinct c.args.live c.requires (returns-clause-keys c))
