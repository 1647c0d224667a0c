use Rattle.std.proofs.Common.{◌∙◌}
use Rattle.frac_keys.proofs.MidpointLemmas.{midpoint_more, first_digit_at}
use Rattle.frac_keys.proofs.midpoint.shared_len.Goals as goal

pub loop-i-preserved : goal.loop-i-preserved
loop-i-preserved c =
    let first = rw (c.first_digit.ensures, c.min.ensures, first_digit_at) at c.if-first_digit-digit.false in
    c.loop-i.invariant ∙ midpoint_more c.args.a.now c.args.b.now c.loop-i.i c.loop-i-test.true first
