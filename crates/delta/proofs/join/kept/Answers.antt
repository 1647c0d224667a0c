-- Each item that stays comes behind those before it.
use Rattle.std.proofs.Common.{◌≤◌, filter, length, take_all, ap, ◌∙◌, arith}
use Rattle.delta.specs.Joined.{stays}
use Rattle.delta.proofs.JoinLaws.{kept-more}
use Rattle.delta.proofs.join.kept.Goals as goal

pub loop-item-preserved : goal.loop-item-preserved
loop-item-preserved g c =
    kept-more (stays g.T.Item.same c.args.before.now c.args.after.now) c.as_slice-item-items.result.now
    c.loop-item.item-index c.item-item.result
    c.loop-item.items.items c.keep.new.items.items (omega arith) (cc) c.loop-item.invariant c.in_ok-keep.ensures

pub returns : goal.returns
returns g c =
    let all : length c.as_slice-item-items.result.now ≤ c.loop-item.item-index = omega arith in
    rw take_all at c.loop-item.invariant
    ∙ ap (filter (stays g.T.Item.same c.args.before.now c.args.after.now)) c.as_slice-item-items.ensures
