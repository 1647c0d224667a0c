use Rattle.std.proofs.Common.{refl, arith}
use Rattle.json_reader.specs.inner.Writing.{stretch}
use Rattle.json_reader.proofs.Outcomes.{stretch_more}
use Rattle.json_reader.proofs.items.item_end.Goals as goal

pub returns : goal.returns
returns c =
    let bytes = c.args.bytes.now in
    let at = c.args.at in
    let number = c.in_ok-_last.ensures in
    let found = c.in_ok-end.ensures in (
      omega (arith, number.0, found.0),
      found.1,
      record {
        number = stretch bytes at c.in_ok-_last.number;
        complete = (_, number.2);
        is = rw (
          stretch_more bytes at c.in_ok-_last.number (omega (arith, number.0)) c.in_ok-end.end (omega (arith, found.0)),
          found.2,
        )
            refl;
      },
    )
