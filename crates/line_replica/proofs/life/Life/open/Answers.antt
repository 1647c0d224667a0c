use Rattle.std.proofs.Common.{Option, None, [], refl, ap, ◌∙◌}
use Rattle.std.specs.Option.{option_map_or}
use Rattle.scene_file.specs.declared.scene.Scene.{Scene}
use Rattle.replica.specs.State.{nothing}
use Rattle.line_replica.proofs.LivingLaws.{opened-stands}
use Rattle.line_replica.proofs.life.Life.open.Goals as goal

pub returns : goal.returns
returns c =
    opened-stands c.args.opening (record {
      number = c.args.opening.number;
      generator = c.generator_of-generator.result;
      head = c.parts_of-head.result.0;
      replica = c.deliver.new.self;
    }) c.as_slice.result.now
    refl c.generator_of-generator.ensures
    (c.parts_of-head.ensures.head
    ∙ ap (λ (scene : Option Scene). option_map_or (λ (s : Scene). s.head) scene
    (record { source = None; app_state = []; files = [] })) c.take.ensures.value)
    (c.as_slice.ensures ∙ (c.parts_of-head.ensures.elements
    ∙ ap (λ (scene : Option Scene). option_map_or (λ (s : Scene). s.elements) scene []) c.take.ensures.value))
    (c.in_ok-deliver.ensures.after nothing c.new-replica.ensures)
