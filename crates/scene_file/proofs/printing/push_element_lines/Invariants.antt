-- The first elements' texts are laid out, with commas between them.
use Rattle.std.proofs.Common.{ℕ, List, ◌++◌, All, map, take}
use Rattle.std.specs.List.{join_with_byte}
use Rattle.json_text.specs.Value.{IsCompact}
use Rattle.scene_json.specs.Lines.{IsLaidOutSoFar}
use Rattle.elem.specs.Texts.{element_text}
use Rattle.scene_file.proofs.printing.push_element_lines.Given as goal

abbrev pub invariant-loop-i : goal.invariant-loop-i
invariant-loop-i l = record {
  made : (text : List ℕ) → IsLaidOutSoFar l.initial.lines text l.initial.out.items
      → IsLaidOutSoFar l.lines (text ++ join_with_byte 44 (map element_text (take l.i l.elements))) l.out.items;
  nest : All (λ e. IsCompact 120 (element_text e)) (take l.i l.elements);
}
