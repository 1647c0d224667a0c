use Rattle.std.proofs.Common.{None}
use Rattle.room_disk.specs.Resuming.{greatest_key}
use Rattle.room_disk.proofs.ResumeLaws.{filled-ids, filled-keys, filled-are, resumed-whole}
use Rattle.room_disk.proofs.laws.resumed_elements_have_keys.Goals as goal

pub returns-clause-ids : goal.returns-clause-ids
returns-clause-ids c = λ elements. filled-ids (greatest_key None elements) elements

pub returns-clause-keys : goal.returns-clause-keys
returns-clause-keys c = λ elements. filled-keys (greatest_key None elements) elements

pub returns-clause-filled : goal.returns-clause-filled
returns-clause-filled c = λ elements. filled-are (greatest_key None elements) elements

pub returns-clause-whole : goal.returns-clause-whole
returns-clause-whole c = resumed-whole
