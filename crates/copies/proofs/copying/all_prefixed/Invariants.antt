use Rattle.std.proofs.Common.{◌≡◌, ◌++◌, map, take}
use Rattle.copies.proofs.copying.all_prefixed.Given as goal

abbrev pub invariant-loop-text : goal.invariant-loop-text
invariant-loop-text l = l.new.items ≡ map (λ text. l.prefix ++ text) (take l.text-index l.texts)
