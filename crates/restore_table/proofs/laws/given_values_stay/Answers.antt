use Rattle.restore_table.proofs.RestoredLaws.{given-stays, listing-stays, unknown-stays}
use Rattle.restore_table.proofs.laws.given_values_stay.Goals as goal

pub returns-clause-given : goal.returns-clause-given
returns-clause-given c = given-stays

pub returns-clause-listing : goal.returns-clause-listing
returns-clause-listing c = listing-stays

pub returns-clause-unknown : goal.returns-clause-unknown
returns-clause-unknown c = unknown-stays
