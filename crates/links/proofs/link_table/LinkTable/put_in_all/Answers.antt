use Rattle.std.proofs.Common.{◌≡◌, ◌||◌, ◌∷◌, ◌++◌, [], length, arith, ap, ◌∙◌, append_assoc, append-nil, length-append}
use Rattle.std.proofs.lemmas.List.{nil_from_length}
use Rattle.links.specs.Rows.{has_row, same_row}
use Rattle.links.proofs.RowEdits.{has-push}
use Rattle.links.proofs.link_table.LinkTable.put_in_all.Goals as goal

pub put_in-requires : goal.put_in-requires
put_in-requires c =
    let parts : c.args.rows ≡ c.loop-row.yielded ++ c.in-Some.row ∷ c.next.new.self.rest.items =
    c.loop-row.invariant.parts ∙ ap (λ rest. c.loop-row.yielded ++ rest) c.in-Some.ensures.steps.0 in
    let count : length c.args.rows ≡ length (c.loop-row.yielded ++ c.in-Some.row ∷ c.next.new.self.rest.items) =
    ap length parts in
    omega (
      arith,
      c.requires,
      c.loop-row.invariant.spare,
      count,
      length-append c.loop-row.yielded (c.in-Some.row ∷ c.next.new.self.rest.items),
    )

pub loop-row-preserved : goal.loop-row-preserved
loop-row-preserved c = record {
  rows = λ row. c.put_in.ensures.rows row ∙ ap (λ b. same_row row c.in-Some.row || b) (c.loop-row.invariant.rows row)
      ∙ has-push c.loop-row.yielded c.in-Some.row row (has_row c.args.self.now.rows row);
  parts =
      rw append_assoc (c.loop-row.invariant.parts ∙ ap (λ rest. c.loop-row.yielded ++ rest) c.in-Some.ensures.steps.0);
  spare = omega (
    arith,
    c.loop-row.invariant.spare,
    c.put_in.ensures.spare,
    length-append c.loop-row.yielded (c.in-Some.row ∷ []),
  );
}

pub returns-clause-rows : goal.returns-clause-rows
returns-clause-rows c row =
    let none : c.loop-row.row-iterator.rest.items ≡ [] = nil_from_length _ (omega (arith, c.in-None.ensures.steps)) in
    let all : c.args.rows ≡ c.loop-row.yielded =
    c.loop-row.invariant.parts ∙ ap (λ rest. c.loop-row.yielded ++ rest) none ∙ append-nil c.loop-row.yielded in
    rw all (c.loop-row.invariant.rows row)

pub returns-clause-spare : goal.returns-clause-spare
returns-clause-spare c =
    let none : c.loop-row.row-iterator.rest.items ≡ [] = nil_from_length _ (omega (arith, c.in-None.ensures.steps)) in
    let all : c.args.rows ≡ c.loop-row.yielded =
    c.loop-row.invariant.parts ∙ ap (λ rest. c.loop-row.yielded ++ rest) none ∙ append-nil c.loop-row.yielded in
    rw all c.loop-row.invariant.spare
