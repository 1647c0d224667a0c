-- The first of the ids that is missing, or else of that of the spot.
use Rattle.std.proofs.Common.{rules}
use Rattle.effects.specs.Refusals.{spot_ids}
use Rattle.effects.proofs.MissingLaws.{earlier, later}
use Rattle.effects.proofs.refusing.check_ids_at.Goals as goal

pub returns-in_err-check_ids-clause-refused : goal.returns-in_err-check_ids-clause-refused
returns-in_err-check_ids-clause-refused c =
    let told = earlier c.args.store.now.elements c.args.ids.now (spot_ids c.args.spot.now) c.in_err-check_ids.field-0.0
    c.in_err-check_ids.ensures.refused in
    search (rules, told)

pub returns-clause-ok : goal.returns-clause-ok
returns-clause-ok c =
    rw (later c.args.store.now.elements c.args.ids.now (spot_ids c.args.spot.now) c.in_ok-check_ids.ensures.ok)
    c.check_spot.ensures.ok

pub returns-clause-refused : goal.returns-clause-refused
returns-clause-refused c =
    rw (later c.args.store.now.elements c.args.ids.now (spot_ids c.args.spot.now) c.in_ok-check_ids.ensures.ok)
    c.check_spot.ensures.refused
