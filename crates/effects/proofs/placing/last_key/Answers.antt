-- The last element that isn't passed over has the key.
use Rattle.std.proofs.Common.{◌≡◌, not, reverse, rules, tests, option_map, option_copied, sym, ap, ◌∙◌}
use Rattle.std.specs.List.{find}
use Rattle.std.specs.Option.{option_and_then}
use Rattle.std.proofs.lemmas.Iterator.Adapters.{YieldsList-from_rev_slice}
use Rattle.std.proofs.lemmas.Iterator.Search.{find_from_yields_List}
use Rattle.elem.specs.ElementValue.{ElementValue}
use Rattle.effects.specs.Placing.{is_of}
use Rattle.effects.proofs.PlacingLaws.{last_key-found}
use Rattle.effects.proofs.placing.last_key.Goals as goal
use Rattle.effects.proofs.placing.last_key.Goals.{After-find}

found : (c : After-find)
    → option_map (λ x. x.now) c.find.result
    ≡ find (λ (e : ElementValue). not (is_of (option_copied c.args.except) e)) (reverse c.args.elements.now)
found c = find_from_yields_List (λ (e : ElementValue). not (is_of (option_copied c.args.except) e)) _ _ c.find.result
    c.find.ensures.ran (YieldsList-from_rev_slice c.args.elements.now cc) (λ x b q k. search (rules, tests))

pub returns-in_err-e : goal.returns-in_err-e
returns-in_err-e c =
    ap option_copied c.from_residual.ensures
    ∙ ap (option_and_then (λ (e : ElementValue). e.index)) (ap (option_map (λ x. x.now)) (sym c.in_err-e.was)
    ∙ found (goal.at.returns-in_err-e c).After-find)
    ∙ sym (last_key-found (option_copied c.args.except) c.args.elements.now)

pub returns : goal.returns
returns c =
    c.index_of.ensures
    ∙ ap (option_and_then (λ (e : ElementValue). e.index)) (ap (option_map (λ x. x.now)) (sym c.in_ok-e.was)
    ∙ found (goal.at.returns c).After-find)
    ∙ sym (last_key-found (option_copied c.args.except) c.args.elements.now)
