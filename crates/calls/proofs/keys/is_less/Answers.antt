use Rattle.frac_keys.proofs.CallerLemmas.{bytes_less-lt}
use Rattle.calls.proofs.keys.is_less.Goals as goal

pub returns : goal.returns
returns c = rw (← c.as_bytes.ensures.value, ← c.as_bytes-bytes.ensures.value)
    (bytes_less-lt c.as_bytes.result.now c.as_bytes-bytes.result.now c.lt.result c.lt.ensures)
