use Rattle.std.proofs.Common.{arith}
use Rattle.json_reader.proofs.ItemRuns.{items-more}
use Rattle.json_reader.proofs.items.items_end.Goals as goal

pub loop-end-preserved : goal.loop-end-preserved
loop-end-preserved c =
    let before = c.loop-end.invariant in
    let found = c.in-Some.ensures in
    record {
      within = (omega (arith, before.within.0, found.0), found.1);
      items = items-more c.args.bytes.now c.args.at c.loop-end.next
          c.in-Some.end before.within.0 (omega (arith, found.0)) before.items found.2;
    }
