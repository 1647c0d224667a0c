use Rattle.std.proofs.Common.{◌≡◌, [], arith, sym, ◌∙◌}
use Rattle.std.proofs.lemmas.Bool.{false≢true}
use Rattle.std.proofs.lemmas.List.{drop_all}
use Rattle.json_reader.proofs.Outcomes.{broken_in}
use Rattle.json_reader.proofs.reader.ValueReader.finish.Goals as goal

pub returns-in_ok-into_value-clause-value : goal.returns-in_ok-into_value-clause-value
returns-in_ok-into_value-clause-value c at read =
    c.in_ok-into_value.ensures at read (rw (drop_all c.args.self.next c.args.bytes.now (omega arith))
    (c.is_done.ensures.0 c.if-is_done.true))

pub returns-else-is_done-clause-fault : goal.returns-else-is_done-clause-fault
returns-else-is_done-clause-fault c fault is at read =
    let machine = c.args.self.reading.machine in
    let same : c.fault.result ≡ fault = cc in
    broken_in c.args.bytes.now at c.args.self.next read.low machine.mode machine.brackets read.runs []
    (drop_all c.args.self.next c.args.bytes.now (omega arith)) (λ e. false≢true (sym c.if-is_done.false
    ∙ c.is_done.ensures.1 e))
    c.args.place c.args.place (omega arith) fault (sym same ∙ c.fault.ensures)
