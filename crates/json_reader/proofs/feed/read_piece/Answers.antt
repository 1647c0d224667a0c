use Rattle.std.proofs.Common.{◌≡◌, ◌-◌, [], length, arith, length-append, sym, ap, ◌∙◌}
use Rattle.std.proofs.lemmas.Grind.{common_steps}
use Rattle.json_reader.proofs.Feeds.{behind_on, through_fed, ended_fed, late_ended}
use Rattle.json_reader.proofs.feed.read_piece.Goals as goal

pub overflow_sub-result : goal.overflow_sub-result
overflow_sub-result c =
    let came = rw c.in-Ok-Ended.field-0-is at c.in-Ok-Ended.ensures.came in
    let is = c.as_slice-bytes.ensures.value ∙ c.in_ok-extend_from_slice.ensures.items in
    omega (
      arith,
      late_ended c.args.rest.now.items c.args.piece.now c.as_slice-bytes.result.now is c.requires.kept
          c.in-Ok-Ended.value c.in-Ok-Ended.end came,
    )

pub returns-in-Ok-Through-clause-fed : goal.returns-in-Ok-Through-clause-fed
returns-in-Ok-Through-clause-fed c =
    let came = rw c.in-Ok-Through.field-0-is at c.in-Ok-Through.ensures.came in
    let begun = behind_on c.args.rest.now.items c.args.piece.now c.requires.kept.begun
    (λ (none : c.args.rest.now.items ≡ []). grind (arith, common_steps, none, c.is_empty.ensures, c.if-is_empty.false)) in
    let value = c.as_slice-bytes.ensures.value in
    through_fed c.args.rest.now.items c.args.piece.now _ (value ∙ c.in_ok-extend_from_slice.ensures.items
    ∙ sym begun) c.in-Ok-Through.read came _ (sym value)

pub returns-in-Ok-Ended-clause-fed : goal.returns-in-Ok-Ended-clause-fed
returns-in-Ok-Ended-clause-fed c =
    let rest = c.args.rest.now.items in
    let piece = c.args.piece.now in
    let bytes = c.as_slice-bytes.result.now in
    let end = c.in-Ok-Ended.end in
    let came = rw c.in-Ok-Ended.field-0-is at c.in-Ok-Ended.ensures.came in
    let is = c.as_slice-bytes.ensures.value ∙ c.in_ok-extend_from_slice.ensures.items in
    let up = late_ended rest piece bytes is c.requires.kept c.in-Ok-Ended.value end came in
    ended_fed rest piece bytes (is ∙ sym (behind_on rest piece c.requires.kept.begun
    (λ (none : rest ≡ []). grind (arith, common_steps, none, c.is_empty.ensures, c.if-is_empty.false))))
    c.in-Ok-Ended.value end (end - c.len-before.result) _ c.new.ensures.items came
    (omega (arith, up, ap length is, length-append rest piece))
