use Rattle.links.proofs.Near.{near-all, links-alone}
use Rattle.links.proofs.laws.three_steps_are_enough.Goals as goal

pub returns : goal.returns
returns c = λ list among id distinct near. links-alone list among id distinct (near-all list among id near)
