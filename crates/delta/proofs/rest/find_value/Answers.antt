-- The members with lesser names stand before the place, and no other one has the name.
use Rattle.std.proofs.Common.{◌∙◌}
use Rattle.delta.proofs.RestLaws.{risen, value-at}
use Rattle.delta.proofs.rest.find_value.Goals as goal

pub returns : goal.returns
returns c =
    c.value_at.ensures
    ∙ value-at c.args.name.now c.args.members.now c.place_of.result (risen c.args.members.now c.requires)
    c.place_of.ensures.before c.place_of.ensures.behind
