use Rattle.std.proofs.Common.{◌≡◌, ◌++◌, ap, ◌∙◌, subst}
use Rattle.json_text.specs.Members.{pairs}
use Rattle.json_text.specs.Value.{IsCompact}
use Rattle.scene_json.proofs.CallerLemmas.{rising_distinct}
use Rattle.scene_file.specs.Heads.{Heading}
use Rattle.scene_file.specs.Scenes.{scene_text}
use Rattle.scene_file.proofs.SceneTexts.{scene-written, scene-told, scene-compact}
use Rattle.scene_file.proofs.printing.push_scene.Goals as goal

pub push_back-requires-clause-settings_distinct : goal.push_back-requires-clause-settings_distinct
push_back-requires-clause-settings_distinct c = rising_distinct (pairs c.head.inside.app_state) c.head.invariant.ordered

pub push_back-requires-clause-settings_nest : goal.push_back-requires-clause-settings_nest
push_back-requires-clause-settings_nest c = c.head.invariant.nest

pub returns-clause-text : goal.returns-clause-text
returns-clause-text c =
    let head : Heading =
    record { source = c.head.inside.source; app_state = c.head.inside.app_state; files = c.head.inside.files } in
    subst (λ (h : Heading). c.push_back.new.out.items ≡ c.args.out.now.items ++ scene_text h c.args.elements.now)
    c.head.view_is
    (scene-written head c.args.elements.now (pairs c.in_ok-files.files) c.args.out.now.items c.push_front.new.out.items
    c.push_elements.new.out.items c.push_back.new.out.items
    c.in_ok-push_front.ensures.text c.in_ok-push_elements.ensures.text c.in_ok-push_back.ensures.text
    ∙ ap (λ text. c.args.out.now.items ++ text) (scene-told head c.args.elements.now (pairs c.in_ok-files.files)
    c.in_ok-files.ensures.exact))

pub returns-clause-nests : goal.returns-clause-nests
returns-clause-nests c =
    let head : Heading =
    record { source = c.head.inside.source; app_state = c.head.inside.app_state; files = c.head.inside.files } in
    subst (λ (h : Heading). IsCompact 128 (scene_text h c.args.elements.now)) c.head.view_is
    (subst (IsCompact 128) (scene-told head c.args.elements.now (pairs c.in_ok-files.files) c.in_ok-files.ensures.exact)
    (scene-compact head c.args.elements.now (pairs c.in_ok-files.files) c.in_ok-push_front.ensures.nests
    c.in_ok-push_elements.ensures.nest
    c.in_ok-push_back.ensures.settings c.in_ok-push_back.ensures.files))
