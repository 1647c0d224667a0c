use Rattle.std.proofs.Common.{ap₂, ◌∙◌}
use Rattle.frac_keys.specs.Keys.{bytes_less}
use Rattle.frac_keys.proofs.CallerLemmas.{bytes_less-lt}
use Rattle.scene_file.proofs.Joining.{lesser-told}
use Rattle.scene_file.proofs.head.is_lesser.Goals as goal

pub returns-in_ok-other_string-in-Some-Some : goal.returns-in_ok-other_string-in-Some-Some
returns-in_ok-other_string-in-Some-Some c =
    let strings = ap₂ bytes_less (c.as_bytes.ensures.value ∙ c.in_ok-string-in-Some-Some.ensures.quote)
    (c.as_bytes-in-Some-Some.ensures.value ∙ c.in_ok-other_string-in-Some-Some.ensures.quote) in
    lesser-told c.args.source.now c.args.other.now c.in-Some-Some.text c.in-Some-Some.other c.lt.result
    c.in-Some-Some.is-0 c.in-Some-Some.is-1
    (bytes_less-lt c.as_bytes.result.now c.as_bytes-in-Some-Some.result.now c.lt.result c.lt.ensures ∙ strings)
