use Rattle.copies.proofs.CopyNames.{groups-members, groups-alone}
use Rattle.copies.proofs.laws.groups_of_copies_are_copied.Goals as goal

pub returns-clause-members : goal.returns-clause-members
returns-clause-members c = groups-members

pub returns-clause-only : goal.returns-clause-only
returns-clause-only c = groups-alone
