use Rattle.std.proofs.Common.{refl, inl, inr}
use Rattle.json_text.specs.Tree.{null_word}
use Rattle.json_text.proofs.CallerLemmas.{literal-compact}
use Rattle.elem.proofs.values.push_null.Goals as goal

pub returns-clause-nests : goal.returns-clause-nests
returns-clause-nests c = literal-compact 0 null_word (inr (inl refl))
