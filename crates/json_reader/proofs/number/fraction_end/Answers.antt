use Rattle.json_reader.proofs.Numbers.{fraction-follows}
use Rattle.json_reader.proofs.number.fraction_end.Goals as goal

pub returns-in-Zero-clause-part : goal.returns-in-Zero-clause-part
returns-in-Zero-clause-part c =
    let begun = c.begins_fraction.ensures c.if-begins_fraction.true in
    let end = c.digits_end.ensures in
    fraction-follows c.args.part _ _ _ c.in-Zero.is begun.0 begun.1 begun.2 end.within.0 end.value
