use Rattle.std.proofs.Common.{◌++◌, ap, subst, ◌∙◌}
use Rattle.elem_store.specs.Updates.{AreStored}
use Rattle.board_paste.specs.Pasting.{pasted}
use Rattle.clips.specs.declared.clip.Clip.{Clip}
use Rattle.library.specs.Inserting.{clip_with}
use Rattle.library.proofs.inserting.insert_item.Goals as goal

pub returns-in-Ok-clause-stored : goal.returns-in-Ok-clause-stored
returns-in-Ok-clause-stored c = λ updates are.
    subst (λ (clip : Clip). AreStored (updates ++ pasted c.args.store.now.elements clip.elements c.args.prefix.now)
    c.paste.new.store.elements)
    (c.in_ok-clip.ensures ∙ ap clip_with c.as_slice.ensures) (c.in-Ok.ensures.stored updates are)
