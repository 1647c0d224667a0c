use Rattle.std.proofs.Common.{◌<◌, [], length, take_all, refl, sym, arith}
use Rattle.std.proofs.lemmas.Bool.{both_ways}
use Rattle.std.proofs.lemmas.List.Elements.{All-more, All-same, All-get_or}
use Rattle.json_text.specs.Value.{IsCompact}
use Rattle.json_text.specs.declared.text.Member.{Member}
use Rattle.elem_read.proofs.NoSelections.{given-nest, nest-given}
use Rattle.elem_read.proofs.reading.is_shallow.Goals as goal

pub returns-then-not-branch : goal.returns-then-not-branch
returns-then-not-branch c =
    let inside : c.loop-at.at < length c.args.members.now = omega (arith, c.loop-at-test.true, c.len-at-end.ensures) in
    λ value object. (
      λ yes. absurd cc,
      λ shallow.
          let here = All-get_or (λ (m : Member). IsCompact 119 m.value) c.args.members.now c.loop-at.at
          (record { name = []; value = [] }) inside
          (given-nest value c.args.members.now object shallow) in
          absurd (both_ways _ c.if-not-branch.true (c.in_ok-nests_within.ensures.1 here)),
    )

pub loop-at-preserved : goal.loop-at-preserved
loop-at-preserved c =
    let inside : c.loop-at.at < length c.args.members.now = omega (arith, c.loop-at-test.true, c.len-at-end.ensures) in
    All-more (λ (m : Member). IsCompact 119 m.value) c.args.members.now c.loop-at.at
    (record { name = []; value = [] }) inside c.loop-at.invariant
    (c.in_ok-nests_within.ensures.0 c.if-not-branch.false)

pub returns : goal.returns
returns c =
    let ms = c.args.members.now in
    let all = take_all c.loop-at.at ms (omega (arith, c.loop-at-test.false, c.len-at-end.ensures)) in
    let each = All-same (λ (m : Member). IsCompact 119 m.value) ms _ (sym all) c.loop-at.invariant in
    λ value object. (λ yes. nest-given value ms object each, λ shallow. refl)
