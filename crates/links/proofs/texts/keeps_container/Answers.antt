use Rattle.std.proofs.Common.{◌≡◌, map, sym, ap, ◌∙◌, rules, tests}
use Rattle.std.specs.List.{list_any}
use Rattle.std.proofs.lemmas.Iterator.{YieldsList-from_slice}
use Rattle.std.proofs.lemmas.Iterator.Search.{any_from_yields_List}
use Rattle.elem.specs.ElementValue.{ElementValue}
use Rattle.links.specs.Names.{names_container}
use Rattle.links.specs.Tables.{row_element, elements_under}
use Rattle.links.proofs.Tabled.{list_any-map, list_any-none, uncontained}
use Rattle.links.proofs.texts.keeps_container.Goals as goal

pub returns-then-is_contained : goal.returns-then-is_contained
returns-then-is_contained c =
    let test = λ (container : ElementValue). names_container container.id c.args.e.now in
    let any : c.any.result ≡ list_any (λ row. test (row_element row)) c.rows_under.result.now =
    any_from_yields_List (λ row. test (row_element row)) _ _ c.any.result c.any.ensures.ran
    (YieldsList-from_slice c.rows_under.result.now cc) (λ x b q k. search (rules, tests)) in
    any ∙ sym (list_any-map row_element test c.rows_under.result.now)
    ∙ ap (λ rows. list_any test (map row_element rows)) c.rows_under.ensures
    ∙ ap (λ id. list_any test (elements_under id c.args.containers.now)) c.id_of.ensures

pub returns-else-is_contained : goal.returns-else-is_contained
returns-else-is_contained c =
    c.if-is_contained.false
    ∙ sym (list_any-none (λ (container : ElementValue). names_container container.id c.args.e.now)
    (elements_under c.args.e.now.id c.args.containers.now)
    (λ container. uncontained c.args.e.now (sym c.is_contained.ensures ∙ c.if-is_contained.false) container.id))
