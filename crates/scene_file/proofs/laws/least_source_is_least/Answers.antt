use Rattle.scene_file.proofs.SameHeads.{least-is, least-none, none-least}
use Rattle.scene_file.proofs.laws.least_source_is_least.Goals as goal

pub returns-clause-least : goal.returns-clause-least
returns-clause-least c = least-is

pub returns-clause-none : goal.returns-clause-none
returns-clause-none c = λ heads. (λ h head among. least-none heads h head among, none-least heads)
