use Rattle.std.proofs.Common.{◌++◌, map, ap, ◌∙◌}
use Rattle.std.specs.List.{join_with_byte}
use Rattle.elem.specs.Texts.{element_text}
use Rattle.room_msg.proofs.Written.{tagged-written}
use Rattle.room_msg.proofs.printing.tagged_text.Goals as goal

pub returns : goal.returns
returns c =
    c.from_vec.ensures
    ∙ tagged-written c.args.tag.now c.args.elements.now c.new-out.result.items c.extend_from_slice.new.self.items
    c.push_quoted.new.out.items c.extend_from_slice-2.new.self.items
    c.push_elements.new.out.items c.extend_from_slice-3.new.self.items
    c.new-out.ensures.items c.in_ok-extend_from_slice.ensures.items c.in_ok-push_quoted.ensures.ok
    c.in_ok-extend_from_slice-2.ensures.items
    (c.in_ok-push_elements.ensures.text
    ∙ ap (λ es. c.extend_from_slice-2.new.self.items ++ join_with_byte 44 (map element_text es)) c.as_slice.ensures)
    c.in_ok-extend_from_slice-3.ensures.items
