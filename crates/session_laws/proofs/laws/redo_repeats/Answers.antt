use Rattle.session_laws.proofs.Turned.{again-after, redo-after}
use Rattle.session_laws.proofs.laws.redo_repeats.Goals as goal

pub returns-clause-again : goal.returns-clause-again
returns-clause-again c = λ session count at r l again others undos redos rest is here among still are are-2 are-3 are-4.
    again-after session is count at among again others undos redos rest r l here still are are-2 are-3 are-4

pub returns-clause-found : goal.returns-clause-found
returns-clause-found c =
    λ session count at n j k changes undos redos rest is here among still are are-2 are-3 some less.
    redo-after session is count at among changes undos redos rest n j k here still are are-2 are-3 some less
