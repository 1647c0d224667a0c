use Rattle.std.proofs.Common.{◌≡◌, sym, ◌∙◌, rules, tests}
use Rattle.std.specs.List.{list_any}
use Rattle.std.proofs.lemmas.Iterator.{YieldsList-from_slice}
use Rattle.std.proofs.lemmas.Iterator.Search.{any_from_yields_List}
use Rattle.elem.specs.Order.{has_id}
use Rattle.links.specs.Names.{names_container}
use Rattle.links.specs.Tables.{row_element}
use Rattle.links.proofs.Tabled.{any-under, text_entry-is}
use Rattle.links.proofs.names.Names.is_text_entry.Goals as goal

pub returns-then-is_for_text : goal.returns-then-is_for_text
returns-then-is_for_text c =
    let test = names_container c.id_of-id.result.now in
    let any : c.any.result ≡ list_any (λ row. test (row_element row)) c.of_id.result.now =
    any_from_yields_List (λ row. test (row_element row)) _ _ c.any.result c.any.ensures.ran
    (YieldsList-from_slice c.of_id.result.now cc) (λ x b q k. search (rules, tests)) in
    any ∙ any-under (has_id c.args.entry.now.id) c.of_id.result.now c.args.self.now c.of_id.ensures test
    ∙ text_entry-is c.args.self.now c.args.container.now c.id_of-id.result.now c.args.entry.now c.id_of-id.ensures
    (sym c.is_for_text.ensures ∙ c.if-is_for_text.true)
