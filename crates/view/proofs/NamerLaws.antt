-- Who names an element is among the namers of its id.
use Rattle.std.proofs.Common.{◌≡◌, ℕ, true, false, List, None, Contains, filter, map, bytes_eq, ap, ◌∙◌}
use Rattle.std.specs.List.{list_any}
use Rattle.std.specs.Option.{option_map_or}
use Rattle.frac_keys.specs.Rising.{are_rising}
use Rattle.elem.specs.ElementValue.{ElementValue}
use Rattle.elem_store.specs.Updates.{ids_of}
use Rattle.elem_store.proofs.CallerLemmas.{member}
use Rattle.links.specs.declared.rows.LinkRow.{LinkRow}
use Rattle.links.specs.Rows.{is_for, namer_of}
use Rattle.links.specs.Steps.{names_id}
use Rattle.links.proofs.CallerLemmas.{list_any-map, list_any-filter}
use Rattle.view.specs.Kept.{HaveRowsOf}

pub namer-among : (live : List ElementValue) (rows : List LinkRow) (id : List ℕ) (e : ElementValue)
    → are_rising (ids_of live) ≡ true → HaveRowsOf live rows → Contains live e → names_id id e ≡ true
    → list_any (bytes_eq e.id) (map namer_of (filter (is_for id) rows)) ≡ true
namer-among live rows id e rising have c names =
    list_any-map namer_of (bytes_eq e.id) (filter (is_for id) rows)
    ∙ list_any-filter (is_for id) (λ (row : LinkRow). bytes_eq e.id row.namer) rows
    ∙ have id e.id ∙ ap (λ o. option_map_or (names_id id) o false) (member None None live e rising c) ∙ names
