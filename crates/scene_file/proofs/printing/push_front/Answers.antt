use Rattle.scene_file.proofs.SceneTexts.{three}
use Rattle.scene_file.proofs.printing.push_front.Goals as goal

pub returns-clause-text : goal.returns-clause-text
returns-clause-text c =
    three _ _ _ _ c.extend_from_slice.new.self.items c.push_source.new.out.items c.extend_from_slice-2.new.self.items
    c.in_ok-extend_from_slice.ensures.items c.in_ok-push_source.ensures.text c.in_ok-extend_from_slice-2.ensures.items
