use Rattle.std.proofs.Common.{◌≡◌, map, sym, ap, subst, ◌∙◌}
use Rattle.std.specs.List.{IsDistinct, list_any}
use Rattle.links.specs.Rows.{is_for, row_of, rows_of, same_row}
use Rattle.links.proofs.RowLaws.{rows_of-named, rows_of-distinct}
use Rattle.links.proofs.rows.rows_of.Goals as goal

exact : (c : goal.After-from_vec) → c.from_vec.result ≡ rows_of c.args.e.now
exact c = c.from_vec.ensures ∙ c.in_ok-rows_for.ensures ∙ ap (map (row_of c.args.e.now)) c.in_ok-named.ensures

pub returns-clause-exact : goal.returns-clause-exact
returns-clause-exact c = exact c

pub returns-clause-named : goal.returns-clause-named
returns-clause-named c id = ap (list_any (is_for id)) (exact c) ∙ rows_of-named c.args.e.now id

pub returns-clause-distinct : goal.returns-clause-distinct
returns-clause-distinct c = subst (IsDistinct same_row) (sym (exact c)) (rows_of-distinct c.args.e.now)
