use Rattle.std.proofs.Common.{◌≡◌, sym, ap, ◌∙◌, rules, tests}
use Rattle.std.specs.List.{list_any}
use Rattle.std.specs.Option.{option_copied}
use Rattle.std.proofs.lemmas.Iterator.{YieldsList-from_slice}
use Rattle.std.proofs.lemmas.Iterator.Search.{any_from_yields_List}
use Rattle.elem.specs.Order.{has_id}
use Rattle.links.specs.Arrows.{names_target}
use Rattle.links.specs.Names.{is_target}
use Rattle.links.specs.Tables.{row_element}
use Rattle.links.proofs.Tabled.{any-under}
use Rattle.links.proofs.names.Names.names_target.Goals as goal

pub returns-in-Some : goal.returns-in-Some
returns-in-Some c =
    let any : c.any.result ≡ list_any (λ row. is_target (row_element row)) c.of_id.result.now =
    any_from_yields_List (λ row. is_target (row_element row)) _ _ c.any.result c.any.ensures.ran
    (YieldsList-from_slice c.of_id.result.now cc) (λ x b q k. search (rules, tests)) in
    any ∙ any-under (has_id c.in-Some.id.now) c.of_id.result.now c.args.self.now c.of_id.ensures is_target
    ∙ ap (λ target. names_target c.args.self.now (option_copied target)) (sym c.in-Some.is)
