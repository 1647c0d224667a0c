use Rattle.input_texts.specs.Lines.{lines_of}
use Rattle.room_disk.proofs.Once.{kept-answer}
use Rattle.room_disk.proofs.laws.recovered_is_unique.Goals as goal

pub returns : goal.returns
returns c = λ bytes found answer kept is. kept-answer (lines_of bytes) found.head found.elements answer kept is
