use Rattle.std.proofs.Common.{◌≡◌, ℕ, List, true, take}
use Rattle.frac_keys.specs.Rising.{are_rising}
use Rattle.elem_store.specs.Updates.{element_of, ids_of}
use Rattle.undo_model.specs.Carrying.{taken_all}
use Rattle.kept_view.specs.inner.Replacing.{element_after}
use Rattle.kept_view.proofs.following.taken_of.Given as goal

abbrev pub invariant-loop-e : goal.invariant-loop-e
invariant-loop-e l = record {
  ordered : are_rising (ids_of l.news.elements) ≡ true;
  each : (id : List ℕ) → element_of (taken_all (take l.e-index l.changed) l.store.elements) id
      ≡ element_after l.store.elements l.news.elements id;
}
