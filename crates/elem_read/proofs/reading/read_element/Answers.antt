use Rattle.elem_read.proofs.reading.read_element.Goals as goal

pub read_item-requires : goal.read_item-requires
read_item-requires c = (c.args.value.now, c.in_ok-item.ensures)
