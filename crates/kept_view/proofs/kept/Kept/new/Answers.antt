use Rattle.std.proofs.Common.{refl}
use Rattle.view.specs.Settled.{settled}
use Rattle.view.specs.Shown.{placed, shown}
use Rattle.kept_view.proofs.kept.Kept.new.Goals as goal

pub invariant_of-result : goal.invariant_of-result
unfolding placed settled shown
invariant_of-result c = rw (c.new.ensures.items, c.new-2.ensures.items, c.new-3.ensures) (record {
  view = record { exact = refl; ordered = refl; all_live = refl; keys = refl };
  table = λ named namer. refl;
  noted = record { others = λ id f. refl; keyed = λ id f. refl };
})
