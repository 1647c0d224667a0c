use Rattle.std.proofs.Common.{◌∙◌}
use Rattle.library.proofs.ItemTexts.{library-written}
use Rattle.library.proofs.printing.library_text.Goals as goal

pub returns : goal.returns
returns c =
    c.from_vec.ensures
    ∙ library-written c.args.shelf.now c.new-out.result.items c.extend_from_slice.new.self.items
    c.push_items.new.out.items c.extend_from_slice-2.new.self.items
    c.new-out.ensures.items c.in_ok-extend_from_slice.ensures.items c.in_ok-push_items.ensures
    c.in_ok-extend_from_slice-2.ensures.items
