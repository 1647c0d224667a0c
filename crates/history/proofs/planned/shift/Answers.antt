-- One more entry moves.
use Rattle.std.proofs.Common.{◌+◌, ◌<◌, ◌++◌, [], ◌∷◌, length, map, reverse, append_assoc, sym, ap, ◌∙◌, arith}
use Rattle.delta.specs.Parts.{inverses}
use Rattle.history.specs.Stacks.{below_last, last_of}
use Rattle.history.proofs.PlanLaws.{split-last, moved-more}
use Rattle.history.proofs.planned.shift.Goals as goal

pub loop-moved-preserved : goal.loop-moved-preserved
loop-moved-preserved c =
    let xs = c.args.from.now.items in
    let i = c.loop-moved._moved in
    let within : i < length xs = omega (arith, c.requires.count) in
    let at = split-last xs i within in
    let moved = c.move_last.ensures.moved (below_last (i + 1) xs) at.0 (c.loop-moved.invariant.from ∙ at.1) in
    record {
      from = moved.0;
      to =
          moved.1 ∙ ap (λ ys. ys ++ inverses at.0 ∷ []) c.loop-moved.invariant.to
          ∙ append_assoc c.args.to.now.items (map inverses (reverse (last_of i xs))) (inverses at.0 ∷ [])
          ∙ ap (λ ys. c.args.to.now.items ++ ys) (sym (ap (λ ys. map inverses (reverse ys)) at.2
          ∙ moved-more (last_of i xs) at.0));
      count = omega (arith, c.loop-moved.invariant.count, c.move_last.ensures.from_count);
      total = omega (arith, c.loop-moved.invariant.total, c.move_last.ensures.from_count, c.move_last.ensures.to_count);
      room = c.move_last.ensures.room ∙ c.loop-moved.invariant.room;
    }
