-- The first members' texts stand between commas, and their names are texts.
use Rattle.std.proofs.Common.{◌≡◌, ◌++◌, All, map, take}
use Rattle.std.specs.List.{join_with_byte}
use Rattle.std.specs.Str.{IsUtf8}
use Rattle.json_text.specs.Compact.{member_text}
use Rattle.json_text.specs.Members.{pair_of}
use Rattle.json_text.specs.declared.text.Member.{Member}
use Rattle.scene_file.proofs.printing.push_object.Given as goal

abbrev pub invariant-loop-i : goal.invariant-loop-i
invariant-loop-i l = record {
  made : l.out.items ≡ l.initial.out.items
      ++ join_with_byte 44 (map (λ (m : Member). member_text (pair_of m)) (take l.i l.member-items));
  named : All (λ (m : Member). IsUtf8 m.name) (take l.i l.member-items);
}
