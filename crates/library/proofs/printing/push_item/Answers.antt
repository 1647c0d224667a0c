use Rattle.std.proofs.Common.{◌++◌, map, ap, ◌∙◌}
use Rattle.std.specs.List.{join_with_byte}
use Rattle.elem.specs.Texts.{element_text}
use Rattle.library.proofs.ItemTexts.{item-written}
use Rattle.library.proofs.printing.push_item.Goals as goal

pub returns : goal.returns
returns c =
    let opened = c.extend_from_slice.new.self.items in
    item-written c.args.item.now c.args.out.now.items c.push_front.new.out.items c.push_name.new.out.items opened
    c.push_elements.new.out.items c.extend_from_slice-2.new.self.items
    c.in_ok-push_front.ensures c.in_ok-push_name.ensures c.in_ok-extend_from_slice.ensures.items
    (c.in_ok-push_elements.ensures.text
    ∙ ap (λ es. opened ++ join_with_byte 44 (map element_text es)) c.as_slice.ensures)
    c.in_ok-extend_from_slice-2.ensures.items
