use Rattle.std.proofs.Common.{sym, ap, ◌∙◌}
use Rattle.json_reader.specs.inner.Places.{mark_of}
use Rattle.json_reader.proofs.Placing.{seen_more}
use Rattle.json_reader.proofs.collapsing.are_distinct.Goals as goal

pub loop-i-preserved : goal.loop-i-preserved
loop-i-preserved c =
    seen_more c.args.bytes.now c.args.places.now c.loop-i.i c.loop-i.seen c.mark_of-mark.result c.loop-i-test.true
    c.loop-i.invariant
    (c.mark_of-mark.ensures.value ∙ ap mark_of c.bytes_at-name.ensures) c.mark_of-mark.ensures.small
    (rw (← c.bytes_at-name.ensures) (sym c.comes_again.ensures ∙ c.if-comes_again.false))
