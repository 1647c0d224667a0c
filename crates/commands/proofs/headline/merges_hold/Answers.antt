use Rattle.commands.proofs.Again.{restores-once, restores-merges}
use Rattle.commands.proofs.States.{states-stand_for}
use Rattle.commands.proofs.Unique.{merges-converge}
use Rattle.commands.proofs.headline.merges_hold.Goals as goal

pub returns-clause-converges : goal.returns-clause-converges
returns-clause-converges c = merges-converge

pub returns-clause-restores_once : goal.returns-clause-restores_once
returns-clause-restores_once c = restores-once

pub returns-clause-restores_merges : goal.returns-clause-restores_merges
returns-clause-restores_merges c = restores-merges

pub returns-clause-states_stand_for : goal.returns-clause-states_stand_for
returns-clause-states_stand_for c = states-stand_for
