-- The ids of the updates are touched.
use Rattle.std.proofs.Common.{refl}
use Rattle.undo_model.specs.Carrying.{taken_all}
use Rattle.snapshot.proofs.CallerLemmas.{untouched-grown, untouched-taken}
use Rattle.replica.proofs.TouchingLaws.{either-way, kept-untouched}
use Rattle.replica.proofs.board.Board.store_alone.Goals as goal

pub returns-in_err-touch-clause-untouched : goal.returns-in_err-touch-clause-untouched
returns-in_err-touch-clause-untouched c =
    untouched-grown c.args.self.now.touched c.touch.new.self c.args.self.now.snapshot.elements
    c.args.self.now.store.elements c.touch.ensures.kept c.requires.board.1

pub returns-clause-untouched : goal.returns-clause-untouched
returns-clause-untouched c =
    let old = c.args.self.now.touched in
    let new = c.touch.new.self in
    let snapshot = c.args.self.now.snapshot.elements in
    let stored = c.args.self.now.store.elements in
    let list = c.args.list.now in
    either-way c.take.result c.take.ensures.stored c.take.ensures.err_stored
    (λ is. kept-untouched new snapshot (taken_all list stored) snapshot c.take.new.store.elements refl is
    (untouched-taken old new list snapshot stored c.in_ok-touch.ensures.touched c.requires.board.1))
    (λ is. kept-untouched new snapshot stored snapshot c.take.new.store.elements refl is
    (untouched-grown old new snapshot stored c.touch.ensures.kept c.requires.board.1))
