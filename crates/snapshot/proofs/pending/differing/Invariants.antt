-- The copies, and what is stored of the other ids, over the elements are what is stored of all ids over them.
use Rattle.std.proofs.Common.{◌≡◌, true}
use Rattle.frac_keys.specs.Rising.{are_rising}
use Rattle.elem_store.specs.Updates.{ids_of}
use Rattle.undo_model.specs.Carrying.{with_all_put}
use Rattle.snapshot.proofs.TouchedLaws.{all_found, AreFound}
use Rattle.snapshot.proofs.pending.differing.Given as goal

abbrev pub invariant-loop-id : goal.invariant-loop-id
invariant-loop-id l = record {
  next : (goal.iterator-loop-id).can_next l.id-iterator;
  finite : (goal.iterator-loop-id).is_finite l.id-iterator;
  over : all_found l.store.elements l.id-iterator (with_all_put l.copies.items l.elements.items)
      ≡ all_found l.store.elements l.touched.keys l.elements.items;
  ordered : are_rising (ids_of l.copies.items) ≡ true;
  found : AreFound l.store.elements l.copies.items;
}
