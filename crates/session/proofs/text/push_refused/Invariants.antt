-- The first texts stand between commas.
use Rattle.std.proofs.Common.{◌≡◌, ◌++◌, map, take}
use Rattle.std.specs.List.{join_with_byte}
use Rattle.session.specs.Texts.{refused_text}
use Rattle.session.proofs.text.push_refused.Given as goal

abbrev pub invariant-loop-i : goal.invariant-loop-i
invariant-loop-i l = l.out.items ≡ l.initial.out.items ++ join_with_byte 44 (map refused_text (take l.i l.events))
