use Rattle.std.proofs.Common.{◌<◌, length, arith}
use Rattle.session.proofs.WorldLaws.{picked-step}
use Rattle.session.proofs.picking.all_picked.Goals as goal

pub loop-pick-preserved : goal.loop-pick-preserved
loop-pick-preserved c =
    let inside : c.loop-pick.pick-index < length c.args.picks.now = omega arith in
    picked-step c.args.messages.now.items c.args.picks.now c.loop-pick.pick-index _ c.loop-pick.copies.items
    c.push_picked.new.copies.items inside
    c.loop-pick.invariant c.in_ok-push_picked.ensures
