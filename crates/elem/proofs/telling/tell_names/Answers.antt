use Rattle.std.proofs.Common.{◌≤◌, [], length, take_all, ◌∙◌, subst, arith}
use Rattle.std.specs.List.{AllByRecursion}
use Rattle.std.specs.Str.{IsUtf8}
use Rattle.json_text.specs.declared.text.Member.{Member}
use Rattle.elem.proofs.TellingLaws.{each-nth, names-each}
use Rattle.elem.proofs.telling.tell_names.Goals as goal

pub loop-at-preserved : goal.loop-at-preserved
loop-at-preserved c = each-nth (λ (member : Member). IsUtf8 member.name) c.as_members-members.result.now
    c.loop-at.at (record { name = []; value = [] }) (omega arith) c.loop-at.invariant c.name-bytes.ensures.utf8

pub returns : goal.returns
returns c =
    let all : length c.as_members-members.result.now ≤ c.loop-at.at = omega arith in
    names-each IsUtf8 _ (subst (AllByRecursion (λ (member : Member). IsUtf8 member.name)) (take_all _ _ all
    ∙ c.as_members-members.ensures) c.loop-at.invariant)
