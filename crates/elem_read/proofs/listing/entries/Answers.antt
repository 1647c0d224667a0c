use Rattle.std.proofs.Common.{◌≡◌, ◌<◌, length, get_or, add-one, ap, arith}
use Rattle.elem_read.proofs.Parts.{entries-more}
use Rattle.elem_read.proofs.listing.entries.Goals as goal

pub loop-item-preserved : goal.loop-item-preserved
loop-item-preserved c =
    let m = c.item-item.result in
    let i = c.loop-item.item-index in
    let items = c.args.items.now in
    let within : i < length items = omega (arith, ap length c.as_slice-item-items.ensures) in
    let here : m ≡ get_or items i m = cc in
    rw add-one (entries-more items i m _ _ within here c.loop-item.invariant c.in_ok-push_entry.ensures)
