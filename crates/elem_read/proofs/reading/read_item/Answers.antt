use Rattle.elem_read.proofs.NoSelections.{taken-object}
use Rattle.elem_read.proofs.reading.read_item.Goals as goal

pub read_members-requires : goal.read_members-requires
read_members-requires c = (
  c.requires.0,
  taken-object c.requires.0 c.args.item c.in-Object.given c.requires.1 c.in-Object.is,
)
