use Rattle.std.proofs.Common.{◌≡◌, ◌∷◌, take}
use Rattle.std.specs.List.{join_with_byte}
use Rattle.scene_json.proofs.build.raw_array.Given as goal

abbrev pub invariant-loop-i : goal.invariant-loop-i
invariant-loop-i l = l.out.items ≡ 91 ∷ join_with_byte 44 (take l.i l.item-items)
