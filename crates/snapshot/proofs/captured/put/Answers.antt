-- The element takes the place of the one of its id, or stands in the gap for it.
use Rattle.std.proofs.Common.{subst}
use Rattle.elem_store.specs.Places.{IsAt, IsGapFor}
use Rattle.elem_store.proofs.CallerLemmas.{found}
use Rattle.snapshot.proofs.CapturedLaws.{HasPut-set, HasPut-insert}
use Rattle.snapshot.proofs.PutLaws.{put-is}
use Rattle.snapshot.proofs.captured.put.Goals as goal

pub returns-in-Ok-clause-ok : goal.returns-in-Ok-clause-ok
returns-in-Ok-clause-ok c =
    let elements = c.args.elements.now.items in
    let x = found _ c.args.e.id (subst (λ id. IsAt elements id c.in-Ok.i) c.id.ensures c.in-Ok.ensures.found) in
    put-is elements _ c.args.e c.requires (HasPut-set elements c.requires c.args.e c.in-Ok.i x.0 x.1 x.2)

pub returns-in_ok-insert-in-Err-clause-ok : goal.returns-in_ok-insert-in-Err-clause-ok
returns-in_ok-insert-in-Err-clause-ok c =
    let elements = c.args.elements.now.items in
    rw c.in_ok-insert-in-Err.ensures.items
    (put-is elements _ c.args.e c.requires
    (HasPut-insert elements c.requires c.args.e c.in-Err.i
    (subst (λ id. IsGapFor elements id c.in-Err.i) c.id.ensures c.in-Err.ensures.absent)))
