use Rattle.std.proofs.lemmas.List.Sorted.{All-permutation, IsPermutation-map}
use Rattle.members.specs.Standing.{member_at, Stands}
use Rattle.members.proofs.standing.Standing.sort_by_fronts.Goals as goal

pub invariant_of-self : goal.invariant_of-self
invariant_of-self c = All-permutation (Stands c.self.inside.text) _ _ c.sort_by_cached_key.ensures.permutation c.self.invariant

pub invariant_of-self-2 : goal.invariant_of-self-2
invariant_of-self-2 c = All-permutation (Stands c.self.inside.text) _ _ c.sort_by_cached_key.ensures.permutation c.self.invariant

pub returns : goal.returns
returns c = rw (← c.self.view_is) (record { ok = IsPermutation-map (member_at c.self.inside.text) _ _ c.sort_by_cached_key.ensures.permutation })
