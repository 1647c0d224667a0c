use Rattle.std.proofs.Common.{◌≡◌, rules, sym, ◌∙◌}
use Rattle.json_text.specs.Walk.{outside}
use Rattle.scene_json.specs.Passes.{IsEnd}
use Rattle.scene_json.proofs.Skipped.{skipped, end-step, skipped-value, skip_steps}
use Rattle.scene_json.proofs.parts.after_value.Goals as goal
use Rattle.scene_json.proofs.parts.after_value.Goals.{in-Some-eq34-default, in_default}

pub returns-in-Some-clause-found : goal.returns-in-Some-clause-found
returns-in-Some-clause-found c text rest here =
    let found = c.match-split_first.rest.now in
    let stops : IsEnd found = rw c.in-Some.ensures.cases.0 (sym c.ends_value.ensures ∙ c.if-ends_value.true) in
    let same : skipped outside 0 found ≡ skipped outside 0 c.args.bytes.now = elim c.match-split_first.branch [
      | in-Some-eq34-default w ↦ search (rules, skip_steps)
      | in_default w ↦ search (rules, skip_steps)
    ] in
    sym (end-step found stops) ∙ same ∙ skipped-value c.args.bytes.now text rest here
