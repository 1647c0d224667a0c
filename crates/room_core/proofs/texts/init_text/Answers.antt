use Rattle.std.proofs.Common.{◌∙◌}
use Rattle.room_core.proofs.Printed.{init-written}
use Rattle.room_core.proofs.texts.init_text.Goals as goal

pub returns : goal.returns
returns c =
    c.from_vec.ensures ∙
    init-written c.args.store.now.elements c.new-out.result.items c.extend_from_slice.new.self.items
    c.push_stored.new.out.items c.extend_from_slice-2.new.self.items
    c.new-out.ensures.items c.in_ok-extend_from_slice.ensures.items c.in_ok-push_stored.ensures.text
    c.in_ok-extend_from_slice-2.ensures.items
