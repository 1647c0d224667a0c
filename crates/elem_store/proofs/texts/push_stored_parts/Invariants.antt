-- The first elements' texts stand between commas.
use Rattle.std.proofs.Common.{◌≡◌, ◌++◌, map, take}
use Rattle.std.specs.List.{join_with_byte}
use Rattle.elem.specs.Texts.{element_text}
use Rattle.elem_store.proofs.texts.push_stored_parts.Given as goal

abbrev pub invariant-loop-i : goal.invariant-loop-i
invariant-loop-i l =
    l.out.items ≡ l.initial.out.items ++ join_with_byte 44 (map element_text (take l.i l.store.elements))
