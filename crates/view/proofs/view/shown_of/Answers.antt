use Rattle.std.proofs.Common.{◌≡◌, ◌∙◌, subst}
use Rattle.std.proofs.lemmas.Result.{IfOk-weaker}
use Rattle.index_repair.specs.Keyed.{HaveKeysOrNone}
use Rattle.view.specs.Shown.{in_scene_order}
use Rattle.view.specs.inner.Spots.{elements_of}
use Rattle.view.proofs.ShownLaws.{keys-placed, ordered-distinct, shown-ordered}
use Rattle.view.proofs.view.shown_of.Goals as goal

sorted : (c : goal.In_ok-elements) → c.in_ok-elements.elements.items
    ≡ in_scene_order (elements_of c.args.live.now.items)
sorted c = c.in_ok-elements.ensures ∙ c.in_ok-sort.ensures.sorted

pub settled_of-requires : goal.settled_of-requires
settled_of-requires c = ordered-distinct _ _ (sorted c) c.requires

pub returns-clause-exact : goal.returns-clause-exact
returns-clause-exact c =
    IfOk-weaker c.settled_of.result _ _ (λ new is. is ∙ shown-ordered _ _ (sorted c.before)) c.settled_of.ensures.exact

pub returns-clause-keys : goal.returns-clause-keys
returns-clause-keys c = IfOk-weaker c.settled_of.result _ _
    (λ new keys. keys-placed (elements_of c.args.live.now.items) (subst HaveKeysOrNone (sorted c.before) keys))
    c.settled_of.ensures.keys
