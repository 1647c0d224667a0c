use Rattle.std.proofs.Common.{◌≡◌, ◌++◌, ap, ◌∙◌, subst}
use Rattle.json_text.specs.Compact.{object_text}
use Rattle.json_text.specs.Members.{pairs}
use Rattle.scene_json.proofs.CallerLemmas.{rising_distinct}
use Rattle.scene_file.specs.Heads.{Heading}
use Rattle.scene_file.specs.Scenes.{scene_members, state_text}
use Rattle.scene_file.proofs.SceneTexts.{scene-written, state-told}
use Rattle.scene_file.proofs.printing.state_text.Goals as goal

pub push_back-requires-clause-settings_distinct : goal.push_back-requires-clause-settings_distinct
push_back-requires-clause-settings_distinct c = rising_distinct (pairs c.head.inside.app_state) c.head.invariant.ordered

pub push_back-requires-clause-settings_nest : goal.push_back-requires-clause-settings_nest
push_back-requires-clause-settings_nest c = c.head.invariant.nest

pub push_back-requires-clause-files_distinct : goal.push_back-requires-clause-files_distinct
push_back-requires-clause-files_distinct c = rising_distinct (pairs c.in_ok-files.files) c.in_ok-files.ensures.ordered

pub returns-clause-exact : goal.returns-clause-exact
returns-clause-exact c =
    let head : Heading =
    record { source = c.head.inside.source; app_state = c.head.inside.app_state; files = c.head.inside.files } in
    subst (λ (h : Heading). c.from_vec.result ≡ state_text h c.args.store.now.elements) c.head.view_is
    (c.from_vec.ensures
    ∙ scene-written head c.args.store.now.elements (pairs c.in_ok-files.files) c.in_ok-state.state.items
    c.push_front.new.out.items c.push_stored.new.out.items c.push_back.new.out.items
    c.in_ok-push_front.ensures.text c.in_ok-push_stored.ensures.text c.in_ok-push_back.ensures.text
    ∙ ap (λ start. start ++ object_text (scene_members head c.args.store.now.elements (pairs c.in_ok-files.files)))
    c.in_ok-state.ensures.items
    ∙ state-told head c.args.store.now.elements (pairs c.in_ok-files.files) c.in_ok-files.ensures.exact)
