use Rattle.std.proofs.Common.{Err, drop, ap}
use Rattle.std.proofs.lemmas.Result.{err_from_is_err_and}
use Rattle.elem_read.proofs.CallerLemmas.{stop-same}
use Rattle.scene_file.proofs.Blanks.{Stands-behind}
use Rattle.scene_file.proofs.Values.{behind}
use Rattle.scene_file.proofs.reading.read_scene.Goals as goal

pub returns-in_err-scene_of-clause-fault : goal.returns-in_err-scene_of-clause-fault
returns-in_err-scene_of-clause-fault c =
    let p = err_from_is_err_and c.from_residual.result c.from_residual.ensures.1 in
    rw (p.1, p.2) (λ fault e. behind c.args.bytes.now c.args.at fault c.in-Ok.found.0
    (drop c.in-Ok.found.1 c.args.bytes.now) c.in-Ok.ensures.found
    (c.in_err-scene_of.ensures.fault fault (ap Err (stop-same _ _ _ e))))

pub returns-clause-within : goal.returns-clause-within
returns-clause-within c = (
  Stands-behind c.args.bytes.now c.in-Ok.found.0 c.args.at c.in-Ok.found.1 c.in-Ok.ensures.within.1
      c.in-Ok.ensures.found,
  c.in-Ok.ensures.within.1,
)
