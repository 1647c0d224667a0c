use Rattle.std.proofs.Common.{◌≤◌, length, take_all, ◌∙◌, subst, arith}
use Rattle.std.specs.List.{AllByRecursion}
use Rattle.std.specs.Str.{IsUtf8}
use Rattle.elem.specs.declared.parts.BoundRef.{BoundRef}
use Rattle.elem.proofs.TellingLaws.{each-more}
use Rattle.elem.proofs.telling.tell_entries.Goals as goal

pub loop-entry-preserved : goal.loop-entry-preserved
loop-entry-preserved c = each-more (λ (entry : BoundRef). IsUtf8 entry.id) c.as_slice-entry-items.result.now
    c.loop-entry.entry-index c.entry-item.result (cc) (omega arith) c.loop-entry.invariant c.tell_text.ensures

pub returns : goal.returns
returns c =
    let all : length c.as_slice-entry-items.result.now ≤ c.loop-entry.entry-index = omega arith in
    subst (AllByRecursion (λ (entry : BoundRef). IsUtf8 entry.id)) (take_all _ _ all
    ∙ c.as_slice-entry-items.ensures) c.loop-entry.invariant
