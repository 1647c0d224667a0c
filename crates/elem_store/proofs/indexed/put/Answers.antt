-- The place stands at its index among all.
use Rattle.std.proofs.Common.{arith}
use Rattle.elem_store.proofs.Woven.{gaps-insert, woven-put}
use Rattle.elem_store.proofs.indexed.put.Goals as goal

pub returns-then-len-capacity-clause-gaps : goal.returns-then-len-capacity-clause-gaps
returns-then-len-capacity-clause-gaps c =
    let put = c.put_late.ensures in
    rw put.new_is (gaps-insert c.args.late.now.items c.args.i put.index put.before _ c.requires.gaps c.args.place
    (omega (arith, c.requires.in_range, c.args.late.now.ok.0)))

pub returns-then-len-capacity-clause-places : goal.returns-then-len-capacity-clause-places
returns-then-len-capacity-clause-places c =
    let put = c.put_late.ensures in
    rw put.new_is
    (woven-put c.args.settled.now.items c.args.late.now.items c.args.i put.index c.args.place put.before
    (rw c.args.settled.now.ok.0 at c.requires.gaps)
    (omega (arith, c.requires.in_range, c.args.late.now.ok.0, c.args.settled.now.ok.0)))
