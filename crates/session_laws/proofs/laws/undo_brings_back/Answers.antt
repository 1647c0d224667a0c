use Rattle.session_laws.proofs.Turned.{back-after, captured-after, undo-after}
use Rattle.session_laws.proofs.laws.undo_brings_back.Goals as goal

pub returns-clause-back : goal.returns-clause-back
returns-clause-back c = λ session count at n changes undos rest is here among still are are'.
    back-after session is count at among changes undos rest n here still are are'

pub returns-clause-captured : goal.returns-clause-captured
returns-clause-captured c = λ session count at n changes rest is here among are some.
    (captured-after session is count at among changes rest n here are some).0

pub returns-clause-none : goal.returns-clause-none
returns-clause-none c = λ session count at n changes rest is here among are some.
    (captured-after session is count at among changes rest n here are some).1

pub returns-clause-found : goal.returns-clause-found
returns-clause-found c = λ session count at n j changes undos rest is here among still are are' less.
    undo-after session is count at among changes undos rest n j here still are are' less
