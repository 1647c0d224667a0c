use Rattle.session_text.specs.Lines.{LineText}
use Rattle.session_text.proofs.LinesOne.{line-within, line-brings, line-formed}
use Rattle.session_text.proofs.Readings.{ok-told, fault-told}
use Rattle.session_text.proofs.lines.read_line.Goals as goal

pub returns-clause-read : goal.returns-clause-read
returns-clause-read c = ok-told (LineText c.args.value.now) _ _ c.line_in.ensures (λ x is. is)

pub returns-clause-fault : goal.returns-clause-fault
returns-clause-fault c = λ fault same. fault-told (LineText c.args.value.now) _ fault c.line_in.ensures same

pub returns-clause-json : goal.returns-clause-json
returns-clause-json c = λ found same. line-formed c.args.value.now found
    (fault-told (LineText c.args.value.now) _ _ c.line_in.ensures same)

pub returns-clause-within : goal.returns-clause-within
returns-clause-within c = ok-told (LineText c.args.value.now) _ _ c.line_in.ensures (line-within c.args.value.now)

pub returns-clause-brings : goal.returns-clause-brings
returns-clause-brings c = ok-told (LineText c.args.value.now) _ _ c.line_in.ensures (line-brings c.args.value.now)
