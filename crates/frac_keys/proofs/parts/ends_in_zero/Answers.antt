use Rattle.std.proofs.Common.{arith}
use Rattle.frac_keys.proofs.PartLemmas.{ends_in_zero-last}
use Rattle.frac_keys.proofs.parts.ends_in_zero.Goals as goal

pub returns-in-len1-up : goal.returns-in-len1-up
returns-in-len1-up c = ends_in_zero-last c.args.bytes.now (omega arith)
