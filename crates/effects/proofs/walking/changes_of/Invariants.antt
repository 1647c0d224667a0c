use Rattle.std.proofs.Common.{◌≡◌, ◌++◌, find}
use Rattle.std.specs.List.{filter_map}
use Rattle.effects.specs.inner.Concerning.{change_at, is_full_at}
use Rattle.effects.specs.inner.Prepared.{made_by}
use Rattle.effects.proofs.walking.changes_of.Given as goal

-- what is changed and what comes of the ids that are left is all
abbrev pub invariant-loop-id : goal.invariant-loop-id
invariant-loop-id l = record {
  made : l.changed.items ++ filter_map (change_at l.store.elements (made_by l.effect) l.stamp.time l.stamp.nonce)
      l.id-iterator
      ≡ filter_map (change_at l.store.elements (made_by l.effect) l.stamp.time l.stamp.nonce) l.ids.keys;
  free : find (is_full_at l.store.elements (made_by l.effect)) l.id-iterator
      ≡ find (is_full_at l.store.elements (made_by l.effect)) l.ids.keys;
}
