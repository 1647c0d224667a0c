use Rattle.std.proofs.Common.{refl}
use Rattle.std.specs.List.{IsDistinct}
use Rattle.kept_view.proofs.ids.Ids.new.Goals as goal

pub invariant_of-result : goal.invariant_of-result
unfolding IsDistinct
invariant_of-result c = rw (c.new.ensures.items, c.new-2.ensures.empty) (record { same = λ id. refl; distinct = tt })
