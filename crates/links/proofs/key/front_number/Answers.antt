use Rattle.std.proofs.Common.{ap, ◌∙◌}
use Rattle.std.specs.Int.{from_be_bytes, w64}
use Rattle.links.specs.inner.Keys.{front_number}
use Rattle.links.proofs.key.front_number.Goals as goal

pub returns : goal.returns
unfolding front_number
returns c = c.from_be_bytes.ensures ∙ ap (from_be_bytes w64) c.front_of.ensures
