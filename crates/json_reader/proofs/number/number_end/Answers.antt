use Rattle.json_reader.proofs.Numbers.{stretches-join}
use Rattle.json_reader.proofs.number.number_end.Goals as goal

pub returns-clause-part : goal.returns-clause-part
returns-clause-part c =
    let whole = c.part_end-whole.ensures in
    let last = c.fraction_end-last.ensures in
    stretches-join c.args.part _ _ c.args.bytes.now c.args.at c.part_end-whole.result.1 c.fraction_end-last.result.1
    whole.within.0 last.within.0 whole.part last.part
