use Rattle.input_texts.proofs.LineLaws.{are_lines}
use Rattle.input_texts.proofs.laws.bytes_are_lines.Goals as goal

pub returns : goal.returns
returns c = are_lines
