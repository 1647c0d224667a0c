use Rattle.std.proofs.Common.{◌∙◌}
use Rattle.room_disk.proofs.KeptTexts.{kept-written}
use Rattle.room_disk.proofs.kept.kept_text.Goals as goal

pub returns : goal.returns
returns c =
    c.from_vec.ensures
    ∙ kept-written c.args.number c.new-out.result.items c.extend_from_slice.new.self.items c.push_whole.new.out.items
    c.extend_from_slice-2.new.self.items
    c.new-out.ensures.items c.in_ok-extend_from_slice.ensures.items c.in_ok-push_whole.ensures.ok
    c.in_ok-extend_from_slice-2.ensures.items
