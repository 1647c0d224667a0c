use Rattle.std.proofs.Common.{◌≡◌, length, min, sym, ◌∙◌}
use Rattle.std.proofs.lemmas.Slice.Zip.{zip_end}
use Rattle.board_paste.proofs.StoredIds.{none-behind}
use Rattle.board_paste.proofs.pasting.first_stored.Goals as goal

pub returns : goal.returns
returns c =
    let elements = c.args.elements.now in
    let places = c.args.places.now in
    let n : length c.loop-e.yielded ≡ min (length elements) (length places) =
    zip_end elements places c.loop-e.yielded c.into_iter-e-iterator.result c.loop-e.e-iterator c.next.new.self
    c.next.result (cc) (cc) c.loop-e.yielded_by c.in-None.is c.next.ensures.steps in
    sym (none-behind c.args.store.now.elements elements places (length c.loop-e.yielded) n) ∙ c.loop-e.invariant
