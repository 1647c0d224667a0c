-- The first items stand between commas.
use Rattle.std.proofs.Common.{◌≡◌, ◌++◌, All, map, take}
use Rattle.std.specs.List.{join_with_byte}
use Rattle.json_text.specs.Value.{IsCompact}
use Rattle.elem.specs.Texts.{bound_text}
use Rattle.elem.proofs.values.push_listing.Given as goal

abbrev pub invariant-loop-i : goal.invariant-loop-i
invariant-loop-i l = record {
  made : l.out.items ≡ l.initial.out.items ++ join_with_byte 44 (map bound_text (take l.i l.entry-items));
  shallow : All (λ entry. IsCompact 1 (bound_text entry)) (take l.i l.entry-items);
}
