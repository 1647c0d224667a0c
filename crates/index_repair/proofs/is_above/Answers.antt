use Rattle.frac_keys.proofs.CallerLemmas.{bytes_less-lt}
use Rattle.index_repair.proofs.is_above.Goals as goal

pub returns-in-Some-clause-above : goal.returns-in-Some-clause-above
returns-in-Some-clause-above c = rw (c.in-Some.is, ← c.as_bytes.ensures.value, ← c.as_bytes-bytes.ensures.value)
    (bytes_less-lt c.as_bytes.result.now c.as_bytes-bytes.result.now c.lt.result c.lt.ensures)
