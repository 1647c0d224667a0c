use Rattle.std.proofs.Common.{ap, ap₂, ◌∙◌}
use Rattle.json_text.specs.Characters.{quote}
use Rattle.frac_keys.specs.Keys.{bytes_less}
use Rattle.frac_keys.proofs.CallerLemmas.{bytes_less-lt}
use Rattle.commands.proofs.heads.Quoted.is_below.Goals as goal

pub returns : goal.returns
returns c =
    bytes_less-lt c.as_bytes.result.now c.as_bytes-2.result.now c.lt.result c.lt.ensures
    ∙ ap₂ bytes_less (c.as_bytes.ensures.value ∙ c.self.invariant ∙ ap quote c.self.view_is) (c.as_bytes-2.ensures.value
    ∙ c.other.invariant ∙ ap quote c.other.view_is)
