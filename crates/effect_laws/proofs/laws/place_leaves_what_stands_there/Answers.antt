use Rattle.effect_laws.proofs.Standing.{stands}
use Rattle.effect_laws.proofs.laws.place_leaves_what_stands_there.Goals as goal

pub returns-clause-key : goal.returns-clause-key
returns-clause-key c stored shown given seen spot time nonce ordered rising distinct told standing =
    let at = stands shown seen spot rising distinct standing in
    c.key_stays_at_its_spot.ensures.key stored shown given seen.id spot time nonce ordered told seen at.0 at.1

pub returns-clause-kept : goal.returns-clause-kept
returns-clause-kept c stored shown given seen old spot time nonce ordered rising distinct told standing found same =
    let at = stands shown seen spot rising distinct standing in
    c.key_stays_at_its_spot.ensures.kept stored shown given seen.id spot time nonce ordered told old seen found at.0
    at.1 same
