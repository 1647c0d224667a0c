use Rattle.effects.specs.inner.Concerning.{HaveLinked, IsWithin}
use Rattle.effects.proofs.ConcerningLaws.{Ids}
use Rattle.effects.proofs.concerning.add_linked.Given as goal

-- what has those of the ids that are left, too, has all
abbrev pub invariant-loop-id : goal.invariant-loop-id
invariant-loop-id l = record {
  kept : IsWithin l.initial.all l.all;
  linked : (new : Ids) → IsWithin l.all new
      → HaveLinked l.lookup.store.now.elements l.lookup.shown.now l.id-iterator new
      → HaveLinked l.lookup.store.now.elements l.lookup.shown.now l.ids.keys new;
}
