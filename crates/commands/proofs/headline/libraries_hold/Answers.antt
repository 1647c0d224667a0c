use Rattle.commands.proofs.Libraries.{inserts-are_pastes, libraries-stand_for, library-its_own, same_items-same_library}
use Rattle.commands.proofs.headline.libraries_hold.Goals as goal

pub returns-clause-library_is_its_own : goal.returns-clause-library_is_its_own
returns-clause-library_is_its_own c = library-its_own

pub returns-clause-libraries_stand_for : goal.returns-clause-libraries_stand_for
returns-clause-libraries_stand_for c = libraries-stand_for

pub returns-clause-same_items_same_library : goal.returns-clause-same_items_same_library
returns-clause-same_items_same_library c = same_items-same_library

pub returns-clause-inserts_are_pastes : goal.returns-clause-inserts_are_pastes
returns-clause-inserts_are_pastes c = inserts-are_pastes
