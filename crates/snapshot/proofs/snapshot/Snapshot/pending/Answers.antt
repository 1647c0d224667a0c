-- The ids are those of the parts.
use Rattle.std.proofs.Common.{ap, ◌∙◌, subst}
use Rattle.delta.specs.Pairs.{EntryStandsFor}
use Rattle.elem_store.specs.Stock.{Stock}
use Rattle.snapshot.specs.Pending.{pairs_since}
use Rattle.snapshot.proofs.snapshot.Snapshot.pending.Goals as goal

pub returns : goal.returns
returns c = (
  c.in_ok-parts.parts.items,
  subst (λ es. EntryStandsFor c.in_ok-parts.parts.items (pairs_since es c.args.store.now.elements))
      (ap (λ (s : Stock). s.elements) c.self.view_is) c.in_ok-parts.ensures,
  c.from_vec.ensures ∙ c.in_ok-ids_of.ensures,
)
