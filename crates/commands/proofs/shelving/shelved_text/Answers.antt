use Rattle.std.proofs.lemmas.Result.{IfOk-weaker}
use Rattle.commands.proofs.shelving.shelved_text.Goals as goal

pub returns : goal.returns
returns c =
    IfOk-weaker c.ended.result _ _ (λ text made texts items have best. (
      c.in_ok-library_text.field-0,
      record {
        items = items;
        read = have;
        best = c.args.shelf.now;
        are_best = best;
        output_is =
            c.in_ok-library_text.ensures;
      },
      made,
    )) c.ended.ensures
