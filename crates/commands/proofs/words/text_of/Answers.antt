use Rattle.commands.proofs.Names.{name-read}
use Rattle.commands.proofs.words.text_of.Goals as goal

pub unwrap-requires : goal.unwrap-requires
unwrap-requires c = name-read c.args.word.now _ c.in_ok-read.field-0 c.as_slice.ensures c.requires c.in_ok-read.ensures
