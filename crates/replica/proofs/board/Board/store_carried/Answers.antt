use Rattle.std.proofs.Common.{ap, ◌∙◌, refl}
use Rattle.elem_store.specs.Updates.{takings}
use Rattle.undo_model.specs.Carrying.{with_all_put, taken_all, carried_all}
use Rattle.snapshot.proofs.CallerLemmas.{untouched-carried}
use Rattle.replica.proofs.TouchingLaws.{kept-untouched}
use Rattle.replica.proofs.board.Board.store_carried.Goals as goal

pub returns-clause-ok : goal.returns-clause-ok
returns-clause-ok c = record {
  elements = c.in_ok-take.ensures.elements;
  stored = c.in_ok-take.ensures.stored;
  view = c.in_ok-take.ensures.view;
  snapshot =
      c.put.ensures ∙ ap (with_all_put c.in_ok-step.step) c.plan_carry.ensures.elements ∙ c.in_ok-step.ensures.step;
  stacks = refl;
}

pub returns-clause-untouched : goal.returns-clause-untouched
returns-clause-untouched c =
    let old = c.args.self.now.touched in
    let new = c.touch.new.self in
    let snapshot = c.args.self.now.snapshot.elements in
    let stored = c.args.self.now.store.elements in
    let list = c.args.list.now in
    kept-untouched new (carried_all (takings stored list) snapshot) (taken_all list stored) c.put.new.self.elements
    c.take.new.store.elements
    (c.put.ensures ∙ ap (with_all_put c.in_ok-step.step) c.plan_carry.ensures.elements
    ∙ c.in_ok-step.ensures.step) c.in_ok-take.ensures.stored
    (untouched-carried old new list snapshot stored c.requires.board.0.0.stored_rise c.in_ok-touch.ensures.touched
    c.requires.board.1)
