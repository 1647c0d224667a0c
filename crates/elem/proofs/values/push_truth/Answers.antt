use Rattle.std.proofs.Common.{refl, inl, inr}
use Rattle.json_text.specs.Tree.{true_word, false_word}
use Rattle.json_text.proofs.CallerLemmas.{literal-compact}
use Rattle.elem.proofs.values.push_truth.Goals as goal

pub returns-in-true-clause-nests : goal.returns-in-true-clause-nests
returns-in-true-clause-nests c = rw c.in-true.is (literal-compact 0 true_word (inr (inr (inl refl))))

pub returns-in-false-clause-nests : goal.returns-in-false-clause-nests
returns-in-false-clause-nests c = rw c.in-false.is (literal-compact 0 false_word (inr (inr (inr refl))))
