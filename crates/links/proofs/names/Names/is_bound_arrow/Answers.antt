use Rattle.std.proofs.Common.{◌≡◌, sym, ◌∙◌, rules, tests}
use Rattle.std.specs.List.{list_any}
use Rattle.std.proofs.lemmas.Iterator.{YieldsList-from_slice}
use Rattle.std.proofs.lemmas.Iterator.Search.{any_from_yields_List}
use Rattle.elem.specs.Order.{has_id}
use Rattle.links.specs.Names.{has_end_at}
use Rattle.links.specs.Tables.{row_element}
use Rattle.links.proofs.Tabled.{any-under, bound_arrow-is, bound_arrow-none}
use Rattle.links.proofs.names.Names.is_bound_arrow.Goals as goal

pub returns-then-is_target : goal.returns-then-is_target
returns-then-is_target c =
    let test = has_end_at c.id_of-id.result.now in
    let any : c.any.result ≡ list_any (λ row. test (row_element row)) c.of_id.result.now =
    any_from_yields_List (λ row. test (row_element row)) _ _ c.any.result c.any.ensures.ran
    (YieldsList-from_slice c.of_id.result.now cc) (λ x b q k. search (rules, tests)) in
    any ∙ any-under (has_id c.args.arrow.now) c.of_id.result.now c.args.self.now c.of_id.ensures test
    ∙ bound_arrow-is c.args.self.now c.args.e.now c.id_of-id.result.now c.args.arrow.now c.id_of-id.ensures
    (sym c.is_target.ensures ∙ c.if-is_target.true)

pub returns-else-is_target : goal.returns-else-is_target
returns-else-is_target c = c.if-is_target.false
    ∙ bound_arrow-none c.args.self.now c.args.e.now c.args.arrow.now (sym c.is_target.ensures ∙ c.if-is_target.false)
