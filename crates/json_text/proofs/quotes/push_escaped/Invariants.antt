use Rattle.std.proofs.Common.{◌≡◌, ◌++◌, flat_map, length}
use Rattle.json_text.specs.Appending.{Extends}
use Rattle.json_text.specs.Characters.{quoted_byte}
use Rattle.json_text.proofs.quotes.push_escaped.Given as goal

abbrev pub invariant-loop-plain : goal.invariant-loop-plain
invariant-loop-plain l = record {
  made : l.out.items ++ flat_map quoted_byte l.rest ≡ l.initial.out.items ++ flat_map quoted_byte l.text;
  kept : Extends l.initial.out.items l.out.items;
}

abbrev pub decreases-loop-plain : goal.decreases-loop-plain
decreases-loop-plain l = length l.rest
