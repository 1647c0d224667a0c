use Rattle.std.proofs.Common.{◌≡◌, ◌*◌, ◌++◌}
use Rattle.scene_json.specs.Layout.{line}
use Rattle.scene_json.proofs.layout.push_line.Given as goal

abbrev pub invariant-loop : goal.invariant-loop
invariant-loop l = l.out.items ≡ l.fn.out.items ++ line (2 * l.counter)
