use Rattle.std.proofs.lemmas.Result.{on_err_weaker}
use Rattle.input_texts.proofs.Answered.{part-last}
use Rattle.input_texts.proofs.answering.write_line.Goals as goal

pub returns-clause-part : goal.returns-clause-part
returns-clause-part g c =
    on_err_weaker c.write_all-2.result (part-last (g.K.Sink.seen c.args.sink.now) (g.K.Sink.seen c.write_all.new.sink)
    (g.K.Sink.seen c.write_all-2.new.sink) c.args.text.now c.in_ok-write_all.ensures.ok) c.write_all-2.ensures.part
