use Rattle.std.proofs.Common.{◌+◌, ◌<◌, length, ap, sym, ◌∙◌, arith, Some}
use Rattle.std.proofs.lemmas.List.{drop_all}
use Rattle.json_text.specs.Members.{pairs}
use Rattle.scene_json.specs.Named.{value_at}
use Rattle.elem_read.proofs.FromPlace.{found-here, passed-here}
use Rattle.elem_read.proofs.near.value_first.Goals as goal

pub returns-then-is : goal.returns-then-is
returns-then-is c =
    let inside : c.loop-at.at < length c.args.members.now = omega (arith, c.loop-at-test.true, c.len-at-end.ensures) in
    let has = rw c.name.ensures.value at (sym c.is.ensures ∙ c.if-is.true) in
    ap Some c.in_ok-to_value.ensures
    ∙ sym (c.loop-at.invariant ∙ found-here c.args.name.now c.args.members.now c.loop-at.at inside has)

pub loop-at-preserved : goal.loop-at-preserved
loop-at-preserved c =
    let inside : c.loop-at.at < length c.args.members.now = omega (arith, c.loop-at-test.true, c.len-at-end.ensures) in
    let lacks = rw c.name.ensures.value at (sym c.is.ensures ∙ c.if-is.false) in
    c.loop-at.invariant
    ∙ passed-here c.args.name.now c.args.members.now c.loop-at.at (c.loop-at.at + 1) (omega arith) inside lacks

pub returns : goal.returns
returns c =
    let none = drop_all c.loop-at.at c.args.members.now (omega (arith, c.loop-at-test.false, c.len-at-end.ensures)) in
    sym (c.loop-at.invariant ∙ ap (λ ms. value_at c.args.name.now (pairs ms)) none)
