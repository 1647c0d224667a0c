use Rattle.std.proofs.Common.{◌≡◌, ◌<◌, ℕ, List, get_or, length, ap, ◌∙◌, arith}
use Rattle.kept_view.proofs.UnsettledLaws.{noted-more}
use Rattle.kept_view.proofs.unsettled.note_all.Goals as goal

pub loop-id-preserved : goal.loop-id-preserved
loop-id-preserved c =
    let i = c.loop-id.id-index in
    let ids = c.args.ids.now.items in
    let id = c.id-item.result in
    let within : i < length ids = omega (arith, c.loop-id-test.true, ap length c.deref-id-items.ensures.value) in
    let there : id ≡ get_or ids i id =
    c.id-item.is ∙ ap (λ (xs : List (List ℕ)). get_or xs i id) c.deref-id-items.ensures.value in
    let before = c.loop-id.unsettled in
    let after = c.note.new.unsettled in
    record {
      kept = record {
        ids = λ q f. c.loop-id.invariant.kept.ids q (c.note.ensures.kept.ids q f);
        rekeyed = λ q f. c.loop-id.invariant.kept.rekeyed q (c.note.ensures.kept.rekeyed q f);
      };
      noted = record {
        ids = noted-more ids i id within there before.ids after.ids c.note.ensures.kept.ids
            c.in_ok-note.ensures.noted c.loop-id.invariant.noted.ids;
        rekeyed = noted-more ids i id within there before.rekeyed after.rekeyed c.note.ensures.kept.rekeyed
            c.in_ok-note.ensures.keyed c.loop-id.invariant.noted.rekeyed;
      };
    }
