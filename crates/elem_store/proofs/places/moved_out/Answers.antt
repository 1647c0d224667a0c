-- No place of the wanted ones comes twice.
use Rattle.elem_store.proofs.MovedOut.{places-within, places-distinct, moved-at}
use Rattle.elem_store.proofs.places.moved_out.Goals as goal

pub arranged-requires-clause-within : goal.arranged-requires-clause-within
arranged-requires-clause-within c =
    rw (c.in_ok-wanted.ensures, c.into_vec.ensures)
    (places-within c.args.elements.items c.args.places.now.places c.requires.in_order c.args.indices.now)

pub arranged-requires-clause-distinct : goal.arranged-requires-clause-distinct
arranged-requires-clause-distinct c =
    rw c.in_ok-wanted.ensures
    (places-distinct c.args.elements.items c.args.places.now.places c.requires.in_order c.args.indices.now
    c.requires.distinct)

pub returns : goal.returns
returns c =
    rw (
      ← moved-at c.args.elements.items c.args.places.now.places c.requires.in_order c.args.indices.now,
      ← c.in_ok-wanted.ensures,
      ← c.into_vec.ensures,
    ) c.arranged.ensures
