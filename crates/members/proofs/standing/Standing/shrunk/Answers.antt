use Rattle.std.proofs.Common.{◌∙◌}
use Rattle.std.proofs.lemmas.List.Elements.{All-same}
use Rattle.members.specs.Standing.{Stands}
use Rattle.members.proofs.standing.Standing.shrunk.Goals as goal

pub invariant_of-result : goal.invariant_of-result
invariant_of-result c = All-same (Stands c.self.inside.text) _ _ (c.in_ok-places.ensures.items ∙ c.as_slice.ensures.value) c.self.invariant
