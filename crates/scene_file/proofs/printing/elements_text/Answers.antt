-- The text is that of the scene, in its layout.
use Rattle.std.proofs.Common.{◌++◌, ap, ◌∙◌, sym, subst}
use Rattle.scene_json.specs.Layout.{IsLaidOut}
use Rattle.scene_file.specs.Scenes.{scene_text}
use Rattle.scene_file.proofs.printing.elements_text.Goals as goal

pub returns-in_ok-push_scene-in-Compact : goal.returns-in_ok-push_scene-in-Compact
returns-in_ok-push_scene-in-Compact c =
    rw c.in-Compact.is
    (c.from_vec.ensures ∙ c.in_ok-push_scene-in-Compact.ensures.text
    ∙ ap (λ out. out ++ scene_text c.args.head.now c.args.elements.now) c.with_room-out.ensures)

pub returns-in_ok-push_scene_lines-in-Pretty : goal.returns-in_ok-push_scene_lines-in-Pretty
returns-in_ok-push_scene_lines-in-Pretty c =
    rw c.in-Pretty.is
    (subst (IsLaidOut 0 (scene_text c.args.head.now c.args.elements.now)) (sym c.from_vec-in-Pretty.ensures)
    (c.in_ok-push_scene_lines-in-Pretty).ensures)
