-- What is planned is one step of undo or redo.
use Rattle.std.proofs.Common.{Ok, ap}
use Rattle.std.proofs.lemmas.List.Elements.{All-nil}
use Rattle.elem.specs.Facts.{IsElement}
use Rattle.elem.specs.Said.{HasValidTexts}
use Rattle.history.specs.declared.step.Step.{Step}
use Rattle.history.specs.Stacks.{Stacks, noted, put_step}
use Rattle.replica.proofs.BoardLaws.{pending-ids}
use Rattle.replica.proofs.CallLaws.{turn-comes}
use Rattle.replica.proofs.TurnLaws.{side-ids}
use Rattle.replica.proofs.board.Board.plan.Goals as goal

pub plan-requires-clause-pending : goal.plan-requires-clause-pending
plan-requires-clause-pending c =
    let sound = c.requires.board.0.0 in
    pending-ids c.args.self.now.snapshot.elements c.args.self.now.store.elements c.in_ok-pending.pending
    sound.stored_rise
    (c.in_ok-pending.ensures.entry sound.snapshot_elements sound.stored_elements
    (All-nil (λ e. IsElement e × HasValidTexts e)))

pub plan-requires-clause-stored : goal.plan-requires-clause-stored
plan-requires-clause-stored c = side-ids c.args.direction c.args.self.now.store.elements c.args.self.now.history.stacks
    c.requires.board.0.0.undo_ids c.requires.board.0.0.redo_ids

pub returns-clause-planned : goal.returns-clause-planned
returns-clause-planned c =
    let sound = c.requires.board.0.0 in
    let stacks : Stacks = c.args.self.now.history.stacks in
    let history = c.in_ok-history.history in
    let pending = c.in_ok-pending.pending in
    record {
      entry = pending;
      stands = c.in_ok-pending.ensures.entry sound.snapshot_elements sound.stored_elements
          (All-nil (λ e. IsElement e × HasValidTexts e));
      fits = c.in_ok-history.ensures.fits;
      comes =
          turn-comes c.args.direction c.args.self.now.store.elements c.args.stamp (noted pending stacks)
          (put_step history stacks) c.in_ok-history.step
          (λ given is. c.in_ok-history.ensures.done history given (ap (λ (a : Step). Ok (history, a)) is))
          (λ is. c.in_ok-history.ensures.nothing.0 is)
          (λ is. c.in_ok-history.ensures.nothing_kept history (ap (λ (a : Step). Ok (history, a)) is));
    }
