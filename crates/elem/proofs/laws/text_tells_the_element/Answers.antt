use Rattle.elem.proofs.Saying.{element-says, Says-once, text-of-one}
use Rattle.elem.proofs.laws.text_tells_the_element.Goals as goal

pub returns-clause-says : goal.returns-clause-says
returns-clause-says c = element-says

pub returns-clause-once : goal.returns-clause-once
returns-clause-once c = Says-once

pub returns-clause-same : goal.returns-clause-same
returns-clause-same c = text-of-one
