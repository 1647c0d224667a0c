use Rattle.std.proofs.Common.{Err, ap}
use Rattle.scene_file.proofs.CallerLemmas.{Stands-no_blank}
use Rattle.checks.proofs.checking.missing.Goals as goal

pub unreachable-requires : goal.unreachable-requires
unreachable-requires c = Stands-no_blank c.args.bytes.now _ _ c.in-Ok.ensures.found c.requires

pub returns : goal.returns
returns c = λ fault e. c.in-Err.ensures.fault fault (ap Err e)
