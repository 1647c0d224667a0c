use Rattle.std.proofs.Common.{take}
use Rattle.std.specs.List.{AllByRecursion}
use Rattle.std.specs.Str.{IsUtf8}
use Rattle.json_text.specs.declared.text.Member.{Member}
use Rattle.elem.proofs.telling.tell_names.Given as goal

abbrev pub invariant-loop-at : goal.invariant-loop-at
invariant-loop-at l = AllByRecursion (λ (member : Member). IsUtf8 member.name) (take l.at l.members)
