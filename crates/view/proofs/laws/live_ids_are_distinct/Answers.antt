use Rattle.view.specs.Shown.{live_elements}
use Rattle.view.proofs.ShownLaws.{HaveDistinctIds-rising, live_elements-rise}
use Rattle.view.proofs.laws.live_ids_are_distinct.Goals as goal

pub returns : goal.returns
returns c = λ stored h. HaveDistinctIds-rising (live_elements stored) (live_elements-rise stored h)
