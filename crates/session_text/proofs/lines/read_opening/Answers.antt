use Rattle.session_text.specs.Lines.{OpeningText}
use Rattle.session_text.proofs.LinesOne.{opening-kept, opening-formed}
use Rattle.session_text.proofs.Readings.{ok-told, fault-told}
use Rattle.session_text.proofs.lines.read_opening.Goals as goal

pub returns-clause-read : goal.returns-clause-read
returns-clause-read c = ok-told (OpeningText c.args.value.now) _ _ c.opening_in.ensures (λ x is. is)

pub returns-clause-fault : goal.returns-clause-fault
returns-clause-fault c = λ fault same. fault-told (OpeningText c.args.value.now) _ fault c.opening_in.ensures same

pub returns-clause-json : goal.returns-clause-json
returns-clause-json c = λ found same. opening-formed c.args.value.now found
    (fault-told (OpeningText c.args.value.now) _ _ c.opening_in.ensures same)

pub returns-clause-kept : goal.returns-clause-kept
returns-clause-kept c = ok-told (OpeningText c.args.value.now) _ _ c.opening_in.ensures (opening-kept c.args.value.now)
