use Rattle.session_text.proofs.Readings.{given_last, stopped, went_on}
use Rattle.session_text.proofs.header.header_of.Goals as goal

pub returns-in_err-_version : goal.returns-in_err-_version
returns-in_err-_version c = stopped c.in_err-_version.ensures c.from_residual.ensures.1

pub returns-in_err-replicas : goal.returns-in_err-replicas
returns-in_err-replicas c =
    went_on c.in_ok-_version.ensures (stopped c.in_err-replicas.ensures c.from_residual-in_err-replicas.ensures.1)

pub returns-in_err-seed : goal.returns-in_err-seed
returns-in_err-seed c =
    went_on c.in_ok-_version.ensures (went_on c.in_ok-replicas.ensures
    (stopped c.in_err-seed.ensures c.from_residual-in_err-seed.ensures.1))

pub returns-in_err-scene : goal.returns-in_err-scene
returns-in_err-scene c = went_on c.in_ok-_version.ensures
    (went_on c.in_ok-replicas.ensures (went_on c.in_ok-seed.ensures
    (stopped c.in_err-scene.ensures c.from_residual-in_err-scene.ensures.1)))

pub returns : goal.returns
returns c = went_on c.in_ok-_version.ensures
    (went_on c.in_ok-replicas.ensures (went_on c.in_ok-seed.ensures (went_on c.in_ok-scene.ensures given_last)))
