-- The default of the row that is found is that of its name.
use Rattle.std.proofs.Common.{◌∙◌, sym, ap, arith, bytes_eq, Some}
use Rattle.scene_json.specs.Named.{value_at}
use Rattle.restore_table.proofs.Rows.{row-found}
use Rattle.restore_table.proofs.table.default_of.Goals as goal

pub returns-then-eq-clause-value : goal.returns-then-eq-clause-value
returns-then-eq-clause-value c =
    let same = sym (λ i. bytes_eq (c.as_bytes.ensures.value i) (c.as_bytes-in-loop-row.ensures.value i))
    ∙ (sym c.eq.ensures ∙ c.if-eq.true) in
    let here = row-found c.args.name.now c.rows-row-items.result.now c.loop-row.row-index _ (omega arith) same in
    ap Some c.fixed.ensures ∙ (sym here
    ∙ (sym c.loop-row.invariant ∙ ap (value_at c.args.name.now) c.rows-row-items.ensures.rows))
