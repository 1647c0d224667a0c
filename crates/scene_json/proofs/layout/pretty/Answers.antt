use Rattle.std.proofs.Common.{◌≡◌, [], sym, ◌∙◌, append-nil}
use Rattle.json_text.specs.Tree.{Tree, IsGood, spelling}
use Rattle.scene_json.specs.Layout.{laid_out}
use Rattle.scene_json.proofs.Laid.{laid-Value}
use Rattle.scene_json.proofs.layout.pretty.Goals as goal
use Rattle.scene_json.proofs.layout.pretty.Goals.{After-from_vec}

laid : (c : After-from_vec) (tree : Tree) → IsGood tree → spelling tree ≡ c.args.value.now
    → c.from_vec.result ≡ spelling (laid_out 0 tree)
laid c tree good spells =
    let so_far = c.in_ok-push.ensures.ok [] (rw c.new-out.ensures.items c.new.ensures) in
    c.from_vec.ensures
    ∙ sym (so_far.goes_on tree [] good (spells ∙ sym c.as_bytes.ensures.value ∙ sym (append-nil c.as_bytes.result.now))
    ∙ append-nil c.push.new.out.items)

pub returns-clause-laid_out : goal.returns-clause-laid_out
returns-clause-laid_out c = λ tree good spells. laid (goal.at.returns-clause-laid_out c).After-from_vec tree good spells

pub returns-clause-value : goal.returns-clause-value
returns-clause-value c =
    let v = c.as_bytes.ensures.compact in
    laid-Value 128 0 c.args.value.now _ c.args.value.now v
    (laid (goal.at.returns-clause-value c).After-from_vec v.tree v.good v.spells)
