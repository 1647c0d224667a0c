use Rattle.std.proofs.Common.{◌≡◌, [], ◌∷◌, ◌+◌, arith, ◌∙◌, sym, subst}
use Rattle.std.proofs.lemmas.List.Elements.{recursion_from_All}
use Rattle.std.proofs.lemmas.Result.{IfOk-weaker}
use Rattle.json_text.specs.Compact.{array_text}
use Rattle.json_text.specs.Value.{IsCompact}
use Rattle.json_text.proofs.CallerLemmas.{array-compact, items-step, array-written}
use Rattle.scene_json.proofs.build.raw_array.Goals as goal
use Rattle.scene_json.proofs.build.raw_array.Goals.{In_ok-push-2}

pub loop-i-preserved : goal.loop-i-preserved
loop-i-preserved c =
    items-step (91 ∷ []) c.as_slice-item-items.result.now c.as_bytes.result.now c.loop-i.i c.loop-i.out.items
    c.push_comma.new.out.items c.extend_from_slice.new.self.items (omega arith)
    (rw c.as_bytes.ensures.value c.item-item.is) c.loop-i.invariant c.in_ok-push_comma.ensures.ok
    c.in_ok-extend_from_slice.ensures.items

written : (c : In_ok-push-2) → c.push-2.new.self.items ≡ array_text c.args.items.now
written c =
    rw (← c.as_slice-item-items.ensures) (array-written c.as_slice-item-items.result.now c.loop-i.i _ _ (omega arith)
    c.loop-i.invariant c.in_ok-push-2.ensures.items)

pub from_compact-requires : goal.from_compact-requires
from_compact-requires c =
    rw (written c) (array-compact 127 c.args.items.now (recursion_from_All (IsCompact 127) _ c.requires))

pub returns-clause-text : goal.returns-clause-text
returns-clause-text c = rw (← written (goal.at.returns-clause-text c).In_ok-push-2) c.from_compact.ensures

pub returns-clause-nests : goal.returns-clause-nests
returns-clause-nests c = λ limit each.
    let done = (goal.at.returns-clause-nests c).In_ok-push-2 in
    let compact = array-compact limit c.args.items.now (recursion_from_All (IsCompact limit) _ each) in
    IfOk-weaker c.from_compact.result _ (IsCompact (limit + 1))
    (λ raw same. subst (IsCompact (limit + 1)) (sym (same ∙ written done)) compact) c.from_compact.ensures
