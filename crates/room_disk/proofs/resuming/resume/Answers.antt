use Rattle.std.proofs.Common.{None, ap, ap₂, ◌∙◌}
use Rattle.room_disk.specs.Resuming.{greatest_key, filled_above}
use Rattle.room_disk.proofs.ResumeLaws.{resumed-stored}
use Rattle.room_disk.proofs.resuming.resume.Goals as goal

pub returns : goal.returns
returns c =
    let es = c.in_ok-elements.ensures.exact in
    let filled = c.from_vec.ensures ∙ (c.in_ok-filled.ensures
    ∙ (ap₂ filled_above c.in_ok-greatest.ensures es
    ∙ ap (λ xs. filled_above (greatest_key None xs) c.args.store.elements) es)) in
    resumed-stored c.args.store.elements c.from_vec.result c.from_updates.result c.in_order.ensures.ordered filled
    c.from_updates.ensures
