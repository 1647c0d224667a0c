use Rattle.std.proofs.Common.{◌≤◌, length, take_all, ◌∙◌, subst, arith}
use Rattle.std.specs.List.{AllByRecursion}
use Rattle.std.specs.Str.{IsUtf8}
use Rattle.elem.proofs.TellingLaws.{each-more}
use Rattle.elem.proofs.telling.tell_texts.Goals as goal

pub loop-text-preserved : goal.loop-text-preserved
loop-text-preserved c = each-more IsUtf8 c.as_slice-text-items.result.now c.loop-text.text-index c.text-item.result (cc)
    (omega arith) c.loop-text.invariant c.tell_text.ensures

pub returns : goal.returns
returns c =
    let all : length c.as_slice-text-items.result.now ≤ c.loop-text.text-index = omega arith in
    subst (AllByRecursion IsUtf8) (take_all _ _ all ∙ c.as_slice-text-items.ensures) c.loop-text.invariant
