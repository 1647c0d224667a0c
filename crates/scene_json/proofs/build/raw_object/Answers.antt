use Rattle.std.proofs.Common.{◌≡◌, ℕ, ◌+◌, ◌<◌, ◌≤◌, All, length, arith, ap, ◌∙◌, sym, subst}
use Rattle.std.proofs.lemmas.List.{length-map, get_or-map}
use Rattle.std.proofs.lemmas.Result.{IfOk-weaker}
use Rattle.json_text.specs.Compact.{object_text}
use Rattle.json_text.specs.Members.{pairs, pair_of}
use Rattle.json_text.specs.Value.{IsCompact}
use Rattle.json_text.specs.declared.text.Member.{Member}
use Rattle.json_text.proofs.CallerLemmas.{object-compact, members-step, object-written}
use Rattle.scene_json.proofs.Pairs.{pairs-AreMembers}
use Rattle.scene_json.proofs.build.raw_object.Goals as goal
use Rattle.scene_json.proofs.build.raw_object.Goals.{In_ok-push-2}

pub loop-i-preserved : goal.loop-i-preserved
loop-i-preserved c =
    let here : c.loop-i.i < length c.as_slice-member-items.result.now = omega arith in
    members-step (pairs c.as_slice-member-items.result.now) (pair_of c.member-item.result) c.loop-i.i c.loop-i.out.items
    c.push_comma.new.out.items c.push_member.new.out.items (simp length-map here)
    (ap pair_of c.member-item.is
    ∙ sym (get_or-map pair_of c.as_slice-member-items.result.now c.loop-i.i c.member-item.result _ here))
    c.in_ok-push_member.ensures.utf8 c.loop-i.invariant c.in_ok-push_comma.ensures.ok c.in_ok-push_member.ensures.ok

written : (c : In_ok-push-2) → c.push-2.new.self.items ≡ object_text (pairs c.args.members.now)
written c =
    let past : length (pairs c.as_slice-member-items.result.now) ≤ c.loop-i.i = simp length-map (omega arith) in
    rw (← c.as_slice-member-items.ensures) (object-written (pairs c.as_slice-member-items.result.now) c.loop-i.i _ _
    past c.loop-i.invariant.text c.in_ok-push-2.ensures.items)

compact : (c : In_ok-push-2) (limit : ℕ) → All (λ (member : Member). IsCompact limit member.value) c.args.members.now
    → IsCompact (limit + 1) (object_text (pairs c.args.members.now))
compact c limit each =
    let past : length (pairs c.as_slice-member-items.result.now) ≤ c.loop-i.i = simp length-map (omega arith) in
    object-compact limit (pairs c.args.members.now)
    (pairs-AreMembers limit c.loop-i.i c.args.members.now (rw (← c.as_slice-member-items.ensures) past)
    (rw (← c.as_slice-member-items.ensures) c.loop-i.invariant.named) c.requires.distinct each)

pub from_compact-requires : goal.from_compact-requires
from_compact-requires c = rw (written c) (compact c 127 c.requires.values)

pub returns-clause-text : goal.returns-clause-text
returns-clause-text c = rw (← written (goal.at.returns-clause-text c).In_ok-push-2) c.from_compact.ensures

pub returns-clause-nests : goal.returns-clause-nests
returns-clause-nests c = λ limit each.
    let done = (goal.at.returns-clause-nests c).In_ok-push-2 in
    IfOk-weaker c.from_compact.result _ (IsCompact (limit + 1))
    (λ raw same. subst (IsCompact (limit + 1)) (sym (same ∙ written done)) (compact done limit each))
    c.from_compact.ensures
