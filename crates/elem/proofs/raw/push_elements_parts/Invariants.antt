-- The first elements' texts stand between commas.
use Rattle.std.proofs.Common.{◌≡◌, ◌++◌, All, map, take}
use Rattle.std.specs.List.{join_with_byte}
use Rattle.json_text.specs.Value.{IsCompact}
use Rattle.elem.specs.Texts.{element_text}
use Rattle.elem.proofs.raw.push_elements_parts.Given as goal

abbrev pub invariant-loop-i : goal.invariant-loop-i
invariant-loop-i l = record {
  made : l.out.items ≡ l.initial.out.items ++ join_with_byte 44 (map element_text (take l.i l.elements));
  nest : All (λ e. IsCompact 120 (element_text e)) (take l.i l.elements);
}
