use Rattle.json_text.specs.Members.{pairs}
use Rattle.json_text.proofs.CallerLemmas.{Written}
use Rattle.scene_json.proofs.build.raw_object.Given as goal

abbrev pub invariant-loop-i : goal.invariant-loop-i
invariant-loop-i l = Written l.i l.out.items (pairs l.member-items)
