use Rattle.library.proofs.OrderLaws.{better-asym, better-neither, better-same, better-trans}
use Rattle.library.proofs.laws.better_is_an_order.Goals as goal

pub returns-clause-same : goal.returns-clause-same
returns-clause-same c = better-same

pub returns-clause-both : goal.returns-clause-both
returns-clause-both c = better-asym

pub returns-clause-chain : goal.returns-clause-chain
returns-clause-chain c = better-trans

pub returns-clause-neither : goal.returns-clause-neither
returns-clause-neither c = better-neither
