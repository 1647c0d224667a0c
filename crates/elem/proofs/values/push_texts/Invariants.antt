-- The first items stand between commas.
use Rattle.std.proofs.Common.{◌≡◌, ◌++◌, All, map, take}
use Rattle.std.specs.List.{join_with_byte}
use Rattle.json_text.specs.Value.{IsCompact}
use Rattle.json_text.specs.Characters.{quote}
use Rattle.elem.proofs.values.push_texts.Given as goal

abbrev pub invariant-loop-i : goal.invariant-loop-i
invariant-loop-i l = record {
  made : l.out.items ≡ l.initial.out.items ++ join_with_byte 44 (map quote (take l.i l.text-items));
  shallow : All (λ text. IsCompact 0 (quote text)) (take l.i l.text-items);
}
