use Rattle.std.proofs.Common.{None}
use Rattle.room_disk.specs.Resuming.{greatest_key}
use Rattle.room_disk.proofs.ResumeLaws.{filled-new, new-rise, keys-within}
use Rattle.room_disk.proofs.laws.new_keys_lie_above.Goals as goal

pub returns-clause-new : goal.returns-clause-new
returns-clause-new c = λ elements. filled-new (greatest_key None elements) elements

pub returns-clause-rise : goal.returns-clause-rise
returns-clause-rise c = new-rise

pub returns-clause-greatest : goal.returns-clause-greatest
returns-clause-greatest c = keys-within None
