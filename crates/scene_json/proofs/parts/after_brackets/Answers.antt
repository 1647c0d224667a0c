use Rattle.std.proofs.Common.{◌≡◌, sym, ap, ◌∙◌}
use Rattle.std.proofs.lemmas.List.{nil_from_length}
use Rattle.json_text.specs.Walk.{outside}
use Rattle.scene_json.specs.Passes.{IsEnd}
use Rattle.scene_json.proofs.Skipped.{skipped, end-step, skipped-value}
use Rattle.scene_json.proofs.parts.after_brackets.Goals as goal

pub returns-then-level-eq0-clause-found : goal.returns-then-level-eq0-clause-found
returns-then-level-eq0-clause-found c text rest here =
    let stops : IsEnd c.loop-byte.rest.now =
    rw c.in-Some.ensures.cases.0 (sym c.ends_value.ensures ∙ c.if-ends_value.true) in
    let stopped : skipped outside c.loop-byte.level c.loop-byte.rest.now ≡ c.loop-byte.rest.now =
    rw c.if-level-eq0.true (end-step c.loop-byte.rest.now stops) in
    sym stopped ∙ c.loop-byte.invariant.same ∙ skipped-value c.args.bytes.now text rest here

pub returns-clause-found : goal.returns-clause-found
returns-clause-found c text rest here =
    let none = nil_from_length c.loop-byte.rest.now c.in_default.ensures.cases in
    none ∙ ap (skipped outside c.loop-byte.level) (sym none) ∙ c.loop-byte.invariant.same
    ∙ skipped-value c.args.bytes.now text rest here
