use Rattle.std.proofs.Common.{◌≡◌, ℕ, List, [], ◌++◌, map, sym, ap, ◌∙◌, refl, subst, append-nil}
use Rattle.std.proofs.lemmas.Result.{on_ok_weaker}
use Rattle.std.specs.List.{join_with_byte}
use Rattle.json_text.specs.Members.{pairs}
use Rattle.json_text.specs.Value.{IsCompact}
use Rattle.scene_json.specs.Layout.{IsLaidOut}
use Rattle.scene_json.specs.Lines.{Standing, IsLaidOutSoFar}
use Rattle.scene_json.proofs.CallerLemmas.{rising_distinct}
use Rattle.elem.specs.Texts.{element_text}
use Rattle.scene_file.specs.Heads.{Heading}
use Rattle.scene_file.specs.inner.Printing.{text_behind_elements, text_before_elements as front_of}
use Rattle.scene_file.specs.Scenes.{scene_text}
use Rattle.scene_file.proofs.SceneTexts.{scene-written, scene-told, scene-compact}
use Rattle.scene_file.proofs.printing.push_scene_lines.Goals as goal

-- all of a compact text is laid out
laid : {limit : ℕ} (standing : Standing) (text written : List ℕ) → IsCompact limit text
    → IsLaidOutSoFar standing text written → IsLaidOut 0 text written
laid standing text written v so_far = record {
  tree = v.tree;
  good = v.good;
  spells = v.spells;
  laid = sym (so_far.goes_on v.tree [] v.good (v.spells ∙ sym (append-nil text)) ∙ append-nil written);
}

pub push_back-requires-clause-settings_distinct : goal.push_back-requires-clause-settings_distinct
push_back-requires-clause-settings_distinct c = rising_distinct (pairs c.head.inside.app_state) c.head.invariant.ordered

pub push_back-requires-clause-settings_nest : goal.push_back-requires-clause-settings_nest
push_back-requires-clause-settings_nest c = c.head.invariant.nest

pub returns : goal.returns
returns c =
    let head : Heading =
    record { source = c.head.inside.source; app_state = c.head.inside.app_state; files = c.head.inside.files } in
    let elements = c.args.elements.now in
    let files = pairs c.in_ok-referred.referred in
    let front = c.as_slice.result.now in
    let made = front ++ join_with_byte 44 (map element_text elements) in
    let done = made ++ c.as_slice-2.result.now in
    let told = scene-told head elements files c.in_ok-referred.ensures.exact in
    let same : done ≡ scene_text head elements =
    scene-written head elements files [] front made done
    (c.as_slice.ensures.value ∙ c.in_ok-push_front.ensures.text
    ∙ ap (λ (x : List ℕ). x ++ front_of head.source) c.new-piece.ensures.items) refl
    (ap (λ x. made ++ x) (c.as_slice-2.ensures.value ∙ c.in_ok-push_back.ensures.text
    ∙ ap (λ (x : List ℕ). x ++ text_behind_elements (pairs head.app_state) files) c.clear.ensures.items))
    ∙ told in
    let compact : IsCompact 128 (scene_text head elements) =
    subst (IsCompact 128) told
    (scene-compact head elements files c.in_ok-push_front.ensures.nests c.in_ok-push_element_lines.ensures.nest
    c.in_ok-push_back.ensures.settings c.in_ok-push_back.ensures.files) in
    let begun = c.in_ok-push.ensures.ok [] (subst (IsLaidOutSoFar c.new-lines.result []) (sym c.requires)
    c.new-lines.ensures) in
    let listed = c.in_ok-push_element_lines.ensures.laid_out front begun in
    on_ok_weaker c.push-2.result
    (λ each. subst (λ (h : Heading). IsLaidOut 0 (scene_text h elements) c.push-2.new.out.items) c.head.view_is
    (laid c.push-2.new.self (scene_text head elements) c.push-2.new.out.items compact
    (subst (λ text. IsLaidOutSoFar c.push-2.new.self text c.push-2.new.out.items) same (each made listed))))
    c.push-2.ensures.ok
