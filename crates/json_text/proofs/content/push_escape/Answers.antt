use Rattle.std.proofs.Common.{arith}
use Rattle.std.proofs.lemmas.List.{take_rest}
use Rattle.json_text.proofs.Contents.{unit-ahead, Ahead-unread, unit-takes, pair-takes}
use Rattle.json_text.proofs.content.push_escape.Goals as goal

pub unreachable-requires-in_default-rest : goal.unreachable-requires-in_default-rest
unreachable-requires-in_default-rest c =
    omega (arith, (unit-ahead c.requires.unread.2 c.requires.escape c.if-kind-ne117.false).within)

pub unit_of-first-requires : goal.unit_of-first-requires
unit_of-first-requires c = (unit-ahead c.requires.unread.2 c.requires.escape c.if-kind-ne117.false).good.0

pub second_unit-requires : goal.second_unit-requires
second_unit-requires c =
    let h = unit-ahead c.requires.unread.2 c.requires.escape c.if-kind-ne117.false in
    rw (take_rest c.args.rest.now 6) (λ zeroth one. (unit-ahead (Ahead-unread h) zeroth one).good.0)

pub returns-in-Some-clause-ok : goal.returns-in-Some-clause-ok
returns-in-Some-clause-ok c =
    let found = c.in-Some.ensures.found in
    pair-takes c.args.rest.now c.unit_of-first.result _ _ c.requires.escape c.if-kind-ne117.false
    c.unit_of-first.ensures.value
    c.in-Some.second found.0 found.1 found.2 c.in_ok-push_character.ensures

pub returns-clause-ok : goal.returns-clause-ok
returns-clause-ok c =
    unit-takes c.args.rest.now c.unit_of-first.result _ _ c.requires.escape c.if-kind-ne117.false
    c.unit_of-first.ensures.value
    c.in_default-second_unit.ensures.none c.in_ok-push_character-2.ensures
