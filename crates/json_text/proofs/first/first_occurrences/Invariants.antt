use Rattle.std.proofs.Common.{◌≡◌, take}
use Rattle.json_text.specs.FirstOccurrences.{first_texts}
use Rattle.json_text.proofs.first.first_occurrences.Given as goal

abbrev pub invariant-loop-text : goal.invariant-loop-text
invariant-loop-text l = l.found.keys ≡ first_texts (take l.text-index l.texts)
