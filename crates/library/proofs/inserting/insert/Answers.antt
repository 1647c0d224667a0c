use Rattle.std.proofs.Common.{◌++◌, List, subst, ◌∙◌}
use Rattle.std.proofs.lemmas.Option.{same_Some}
use Rattle.std.proofs.lemmas.Result.{on_ok_weaker}
use Rattle.elem.specs.ElementValue.{ElementValue}
use Rattle.elem_store.specs.Updates.{AreStored}
use Rattle.board_paste.specs.Pasting.{pasted}
use Rattle.library.specs.Inserting.{clip_of}
use Rattle.library.specs.declared.item.Item.{Item}
use Rattle.library.proofs.inserting.insert.Goals as goal

pub returns-clause-stored : goal.returns-clause-stored
returns-clause-stored c =
    let old = c.args.store.now.elements in
    on_ok_weaker c.insert_item.result
    (λ stored item is.
    subst (λ (x : Item). (updates : List ElementValue) → AreStored updates old
    → AreStored (updates ++ pasted old (clip_of x).elements c.args.prefix.now) c.insert_item.new.store.elements)
    (same_Some c.in-Some.item.now item (c.in-Some.ensures.item ∙ is)) stored)
    c.insert_item.ensures.stored
