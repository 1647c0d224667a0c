use Rattle.std.proofs.Common.{◌<◌, length, ap, sym, ◌∙◌, arith, Some}
use Rattle.elem_read.proofs.FromPlace.{found-here, found-later}
use Rattle.elem_read.proofs.near.value_near.Goals as goal

pub returns-then-is : goal.returns-then-is
returns-then-is c =
    let inside : c.loop-at.at < length c.args.members.now = omega (arith, c.loop-at-test.true, c.len-at-end.ensures) in
    let has = rw c.name.ensures.value at (sym c.is.ensures ∙ c.if-is.true) in
    ap Some c.in_ok-to_value.ensures
    ∙ sym (found-later c.args.name.now _ c.args.members.now c.loop-at.at c.requires
    (found-here c.args.name.now c.args.members.now c.loop-at.at inside has))
