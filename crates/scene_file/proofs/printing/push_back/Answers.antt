use Rattle.scene_file.proofs.SceneTexts.{five}
use Rattle.scene_file.proofs.printing.push_back.Goals as goal

pub returns-clause-text : goal.returns-clause-text
returns-clause-text c =
    five _ _ _ _ _ _ c.extend_from_slice.new.self.items c.push_object.new.out.items c.extend_from_slice-2.new.self.items
    c.push_object-2.new.out.items c.push.new.self.items
    c.in_ok-extend_from_slice.ensures.items c.in_ok-push_object.ensures.text c.in_ok-extend_from_slice-2.ensures.items
    c.in_ok-push_object-2.ensures.text c.in_ok-push.ensures.items
