-- The element stands at the place that was found, or none is left of its id.
use Rattle.std.proofs.Common.{sym, ap, ◌∙◌}
use Rattle.std.specs.Option.{option_copied}
use Rattle.effects.specs.Placing.{Gap}
use Rattle.effects.proofs.FindingLaws.{seen-distinct, some-at, none-left}
use Rattle.effects.proofs.PlacingLaws.{gap_above-at, gap_above-excepted, gap_above-missing}
use Rattle.effects.proofs.placing.gap_above.Goals as goal
use Rattle.effects.proofs.placing.gap_above.Goals.{in_default-via-in-Some+else-not-is_excepted, in_default-via-in_default}

pub returns-in-Some-clause-low : goal.returns-in-Some-clause-low
returns-in-Some-clause-low c =
    let seen = c.args.lookup.now.shown.now in
    let at' = some-at seen c.args.below.now c.in-Some.i c.in-Some.ensures.found in
    c.gap_over.ensures.low at'.0 at'.1
    ∙ sym (ap (λ (g : Gap). g.low)
    (gap_above-at c.args.below.now (option_copied c.args.except) seen c.in-Some.i at'.0
    (seen-distinct c.args.lookup.now c.requires) at'.1 at'.2 (sym c.is_excepted.ensures
    ∙ c.if-not-is_excepted.true)))

pub returns-in-Some-clause-high : goal.returns-in-Some-clause-high
returns-in-Some-clause-high c =
    let seen = c.args.lookup.now.shown.now in
    let at' = some-at seen c.args.below.now c.in-Some.i c.in-Some.ensures.found in
    c.gap_over.ensures.high
    ∙ sym (ap (λ (g : Gap). g.high)
    (gap_above-at c.args.below.now (option_copied c.args.except) seen c.in-Some.i at'.0
    (seen-distinct c.args.lookup.now c.requires) at'.1 at'.2 (sym c.is_excepted.ensures
    ∙ c.if-not-is_excepted.true)))

pub returns-in_default-clause-low : goal.returns-in_default-clause-low
returns-in_default-clause-low c =
    let seen = c.args.lookup.now.shown.now in
    let except = option_copied c.args.except in
    elim c.in_default.branch [
      | in_default-via-in-Some+else-not-is_excepted w ↦ sym
          (ap (λ (g : Gap). g.low) (gap_above-excepted c.args.below.now except seen (sym w.is_excepted.ensures
          ∙ w.if-not-is_excepted.false)))
      | in_default-via-in_default w ↦ sym
          (ap (λ (g : Gap). g.low) (gap_above-missing c.args.below.now except seen
          (none-left seen c.args.below.now c.shown_place.result w.in_default.not-Some c.shown_place.ensures.absent)))
    ]

pub returns-in_default-clause-high : goal.returns-in_default-clause-high
returns-in_default-clause-high c =
    let seen = c.args.lookup.now.shown.now in
    let except = option_copied c.args.except in
    elim c.in_default.branch [
      | in_default-via-in-Some+else-not-is_excepted w ↦ sym
          (ap (λ (g : Gap). g.high) (gap_above-excepted c.args.below.now except seen (sym w.is_excepted.ensures
          ∙ w.if-not-is_excepted.false)))
      | in_default-via-in_default w ↦ sym
          (ap (λ (g : Gap). g.high) (gap_above-missing c.args.below.now except seen
          (none-left seen c.args.below.now c.shown_place.result w.in_default.not-Some c.shown_place.ensures.absent)))
    ]
