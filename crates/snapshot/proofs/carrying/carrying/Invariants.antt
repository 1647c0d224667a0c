-- What is left is carried over the newer elements and into the step as the whole list over the store and into the
-- captured ones.
use Rattle.std.proofs.Common.{◌≡◌, true, drop}
use Rattle.frac_keys.specs.Rising.{are_rising}
use Rattle.elem_store.specs.Updates.{ids_of, takings}
use Rattle.undo_model.specs.Carrying.{with_all_put, carried_all}
use Rattle.snapshot.proofs.carrying.carrying.Given as goal

abbrev pub invariant-loop-e : goal.invariant-loop-e
invariant-loop-e l = record {
  carried : carried_all (takings (with_all_put l.newer.items l.store.elements) (drop l.e-index l.list))
      (with_all_put l.step.items l.captured.items)
      ≡ carried_all (takings l.store.elements l.list) l.captured.items;
  newer : are_rising (ids_of l.newer.items) ≡ true;
  step : are_rising (ids_of l.step.items) ≡ true;
}
