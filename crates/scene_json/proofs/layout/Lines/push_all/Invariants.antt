use Rattle.std.proofs.Common.{◌≡◌, ◌++◌, List, ℕ, length}
use Rattle.json_text.specs.Appending.{Extends}
use Rattle.scene_json.specs.Lines.{layout_from}
use Rattle.scene_json.proofs.layout.Lines.push_all.Given as goal

abbrev pub invariant-loop-rest : goal.invariant-loop-rest
invariant-loop-rest l = record {
  made : (more : List ℕ) → l.out.items ++ layout_from l.self (l.rest ++ more) ≡ l.fn.out.items
      ++ layout_from l.fn.self (l.piece ++ more);
  kept : Extends l.fn.out.items l.out.items;
}

abbrev pub decreases-loop-rest : goal.decreases-loop-rest
decreases-loop-rest l = length l.rest
