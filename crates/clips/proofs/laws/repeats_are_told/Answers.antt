use Rattle.clips.proofs.RepeatLaws.{repeat-none, repeat-first}
use Rattle.clips.proofs.laws.repeats_are_told.Goals as goal

pub returns-clause-none : goal.returns-clause-none
returns-clause-none c = repeat-none

pub returns-clause-first : goal.returns-clause-first
returns-clause-first c = repeat-first
