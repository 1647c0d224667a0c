use Rattle.input_texts.specs.Lines.{lines_of}
use Rattle.room_disk.proofs.WholeLaws.{kept-whole}
use Rattle.room_disk.proofs.laws.recovered_is_whole.Goals as goal

pub returns-clause-head : goal.returns-clause-head
returns-clause-head c =
    λ bytes found kept. (kept-whole c.read_messages_are_whole.ensures (lines_of bytes) found.head found.elements kept).0

pub returns-clause-elements : goal.returns-clause-elements
returns-clause-elements c =
    λ bytes found kept. (kept-whole c.read_messages_are_whole.ensures (lines_of bytes) found.head found.elements kept).1
