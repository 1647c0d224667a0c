use Rattle.std.proofs.Common.{◌≡◌, None}
use Rattle.std.proofs.lemmas.Option.{MatchOption-at_none}
use Rattle.checks.proofs.judging.verdicts_in.Goals as goal

pub unreachable-requires : goal.unreachable-requires
unreachable-requires c =
    let none : c.in_ok-values.field-0 ≡ None = cc in
    MatchOption-at_none _ _ none c.in_ok-values.ensures c.requires.0 c.requires.1
