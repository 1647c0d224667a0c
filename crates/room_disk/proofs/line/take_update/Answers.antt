use Rattle.std.proofs.Common.{sym, subst}
use Rattle.elem_store.specs.Updates.{AreStored}
use Rattle.room_disk.proofs.line.take_update.Goals as goal

pub returns-clause-taken : goal.returns-clause-taken
returns-clause-taken c = record {
  elements = c.in_ok-elements.elements;
  read = c.in_ok-elements.ensures.read;
  taken =
      λ updates are. c.take_all.ensures updates (subst (AreStored updates) (sym c.in_ok-reserve.ensures.elements) are);
}
