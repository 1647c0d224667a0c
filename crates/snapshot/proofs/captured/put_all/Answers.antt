-- Each is put in its turn, in the room that there is.
use Rattle.std.proofs.Common.{◌++◌, [], ◌∷◌, length, sym, ap, ◌∙◌, append_assoc, arith}
use Rattle.frac_keys.specs.Rising.{are_rising}
use Rattle.elem_store.specs.Updates.{ids_of}
use Rattle.undo_model.specs.Carrying.{with_put}
use Rattle.snapshot.proofs.PutLaws.{all-rise, all-append}
use Rattle.snapshot.proofs.captured.put_all.Goals as goal

pub put-requires : goal.put-requires
put-requires c =
    ap (λ es. are_rising (ids_of es)) c.loop-e.invariant.put
    ∙ all-rise c.loop-e.yielded c.args.elements.now.items c.requires.rise

pub loop-e-preserved : goal.loop-e-preserved
loop-e-preserved c = record {
  put = c.in-Ok.ensures.ok ∙ ap (with_put c.in-Some.e) c.loop-e.invariant.put
      ∙ sym (all-append c.loop-e.yielded (c.in-Some.e ∷ []) c.args.elements.now.items);
  parts = rw append_assoc (c.loop-e.invariant.parts ∙ ap (λ rest. c.loop-e.yielded ++ rest) c.in-Some.ensures.steps.0);
  room = omega (
    arith,
    ap length c.in-Some.ensures.steps.0,
    c.loop-e.invariant.room,
    c.in-Ok.ensures.count,
    c.in-Ok.ensures.kept,
  );
}
