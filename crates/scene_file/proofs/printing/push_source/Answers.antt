use Rattle.std.proofs.Common.{inl, inr, refl}
use Rattle.json_text.specs.Tree.{null_word}
use Rattle.json_text.proofs.CallerLemmas.{literal-compact}
use Rattle.scene_file.proofs.printing.push_source.Goals as goal

pub returns-in-None-clause-nests : goal.returns-in-None-clause-nests
returns-in-None-clause-nests c = rw c.in-None.is (literal-compact 0 null_word (inr (inl refl)))
