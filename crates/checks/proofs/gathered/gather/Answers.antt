use Rattle.std.proofs.Common.{◌++◌, ap, ◌∙◌, append_assoc}
use Rattle.checks.proofs.gathered.gather.Goals as goal

pub loop-text-preserved : goal.loop-text-preserved
loop-text-preserved c = record {
  all = c.in_ok-take_text.ensures _ c.loop-text.invariant.all;
  parts = rw append_assoc (c.loop-text.invariant.parts
      ∙ ap (λ rest. c.loop-text.yielded ++ rest) c.in-Some.ensures.steps.0);
}
