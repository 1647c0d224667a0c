-- What a replica makes of itself by a change, an undo or a redo: it gives elements of rising ids with the nonce, each
-- of a higher version than the stored one of its id.
use Rattle.std.proofs.Common.{◌≡◌, ℕ, ◌+◌, ◌<◌, true, List, [], ◌∷◌, ◌++◌, Option, Some, None, Result, Ok, Err, Contains, inl, inr, refl, sym, ap, ◌∙◌, subst, arith}
use Rattle.std.proofs.lemmas.Option.{same_Some}
use Rattle.frac_keys.specs.Rising.{are_rising}
use Rattle.elem.specs.ElementValue.{ElementValue}
use Rattle.elem_store.specs.Updates.{element_of, ids_of, stored_of, AreStored}
use Rattle.delta.specs.Pairs.{Pair}
use Rattle.reconcile.specs.Ids.{free_elements}
use Rattle.view.specs.Shown.{live_elements, shown}
use Rattle.effects.specs.Changed.{outcome}
use Rattle.board_commands.specs.declared.command.Capture.{Capture}
use Rattle.board_commands.specs.declared.command.Capture.TheVariants.{Now, Later, Never}
use Rattle.board_commands.specs.declared.command.Command.{Command}
use Rattle.effects.specs.declared.refusal.Refusal.{Refusal}
use Rattle.effects.proofs.CallerLemmas.{created-nonce, given-rise, given-kind, given-cases}
use Rattle.history.specs.declared.planned.Direction.{Direction}
use Rattle.history.specs.declared.planned.Direction.TheVariants as directions
use Rattle.undo_model.specs.Carrying.{taken_all}
use Rattle.undo_model.specs.Differing.{pending}
use Rattle.undo_model.specs.Steps.{Turn}
use Rattle.undo_model.proofs.CallerLemmas.{taken_all-stored, taken_all-rising}
use Rattle.replica.specs.State.{State, noted, captured, stored_with, after_outcome, outcome_on, turn_on, after_turn_of}
use Rattle.session.specs.Worlds.{Seat, Act, fresh, delivered, acted, given_of, of_command, of_step, change_on, turn_by}
use Rattle.session.proofs.CallerLemmas.{outcome-stored, turn-stored}
use Rattle.session_laws.proofs.Entries.{IsOrdered, AreOrdered, pending-ordered, given-found, given-version, given-nonce, IsOrderedTurn, turn-ordered}

-- the ids of the elements rise, each has the nonce, and each is of a higher version than the stored one of its id
pub record IsFresh (stored : List ElementValue) (nonce : ℕ) (given : List ElementValue) : Type 0 where
  pub rise : are_rising (ids_of given) ≡ true
  pub nonces : (e : ElementValue) → Contains given e → e.nonce ≡ nonce
  pub newer : (e old : ElementValue) → Contains given e → element_of stored e.id ≡ Some old → old.version < e.version

none-fresh : (stored : List ElementValue) (nonce : ℕ) → IsFresh stored nonce []
none-fresh stored nonce = record {
  rise = refl;
  nonces = λ e c. absurd (omega (arith, c.1));
  newer = λ e old c found. absurd (omega (arith, c.1));
}

-- ---- a command
module _ (stored shown : List ElementValue) (command : Command) (time nonce : ℕ) where
  outcome-fresh : (given : List ElementValue) → are_rising (ids_of stored) ≡ true
      → outcome stored shown command time nonce ≡ Ok given → IsFresh stored nonce given
  outcome-fresh given rise told = record {
    rise = given-rise stored shown command time nonce given told rise;
    nonces = λ e c. elim (given-cases stored shown command time nonce given told rise e c) [
      | inl change ↦ ap (λ (d : ElementValue). d.nonce) change.is
      | inr new ↦ created-nonce stored shown time nonce command e new.is
    ];
    newer = λ e old c found.
        let next = (given-kind stored shown command time nonce given told rise e old c found).1 in
        omega (arith, next);
  }

-- ---- a replica
-- it stores what it took, and its entries are ordered
pub record IsReady (s : Seat) : Type 0 where
  pub stores : AreStored s.taken s.state.stored
  pub undo : AreOrdered s.state.undo
  pub redo : AreOrdered s.state.redo

pub fresh-ready : IsReady fresh
unfolding stored_of
fresh-ready = record { stores = record { ordered = refl; each = λ id. refl }; undo = tt; redo = tt }

pub delivered-ready : (list : List ElementValue) (s : Seat) → IsReady s → IsReady (delivered list s)
unfolding delivered
delivered-ready list s ready = record {
  stores = taken_all-stored s.taken s.state.stored (free_elements s.state.held list) ready.stores;
  undo = ready.undo;
  redo = ready.redo;
}

-- what is left of a state is ordered
record AreStacksOrdered (s : State) : Type 0 where
  undo : AreOrdered s.undo
  redo : AreOrdered s.redo

noted-ordered : (pairs : List Pair) (s : State) → IsOrdered pairs → AreStacksOrdered s
    → AreStacksOrdered (noted pairs s)
noted-ordered [] s own are = are
noted-ordered (pair ∷ pairs) s own are = record { undo = (own, are.undo); redo = tt }

captured-ordered : (s : State) → are_rising (ids_of s.stored) ≡ true → AreStacksOrdered s
    → AreStacksOrdered (captured s)
captured-ordered s rise are =
    let own = noted-ordered (pending s.snapshot s.stored) s (pending-ordered s.snapshot s.stored rise) are in
    record { undo = own.undo; redo = own.redo }

-- ---- a change, an undo and a redo
-- what is given is stored and fresh, and entries stay ordered
pub record IsOwnAct (s : State) (nonce : ℕ) (act : Act) : Type 0 where
  pub stored : act.state.stored ≡ taken_all (given_of act.outcome) s.stored
  pub undo : AreOrdered act.state.undo
  pub redo : AreOrdered act.state.redo
  pub gives : IsFresh s.stored nonce (given_of act.outcome)

pub acted-ready : (s : Seat) (nonce : ℕ) (act : Act) → IsReady s → IsOwnAct s.state nonce act → IsReady (acted act s)
acted-ready s nonce act ready own = record {
  stores =
      subst (AreStored (s.taken ++ given_of act.outcome)) (sym own.stored)
      (taken_all-stored s.taken s.state.stored (given_of act.outcome) ready.stores);
  undo = own.undo;
  redo = own.redo;
}

module _ (s : State) (time nonce : ℕ) (rise : are_rising (ids_of s.stored) ≡ true) (are : AreStacksOrdered s) where
  -- ---- a change
  answer-ordered : (capture : Capture) (answer : Result (List ElementValue) Refusal)
      → AreStacksOrdered (after_outcome capture answer s)
  answer-ordered Now (Ok given) =
      captured-ordered (stored_with given s) (taken_all-rising s.stored given rise)
      (record { undo = are.undo; redo = are.redo })
  answer-ordered Later (Ok given) = record { undo = are.undo; redo = are.redo }
  answer-ordered Never (Ok given) = record { undo = are.undo; redo = are.redo }
  answer-ordered capture (Err refusal) = are

  answer-fresh : (command : Command) (answer : Result (List ElementValue) Refusal)
      → outcome_on command time nonce s ≡ answer → IsFresh s.stored nonce (given_of (of_command answer))
  answer-fresh command (Ok given) told =
      outcome-fresh s.stored (shown (live_elements s.stored)) command time nonce given rise told
  answer-fresh command (Err refusal) told = none-fresh s.stored nonce

  change-is : (command : Command) (capture : Capture) → IsOwnAct s nonce (change_on command capture time nonce s)
  unfolding change_on
  change-is command capture =
      let left = answer-ordered capture (outcome_on command time nonce s) in
      record {
        stored = outcome-stored capture (outcome_on command time nonce s) s;
        undo = left.undo;
        redo = left.redo;
        gives = answer-fresh command (outcome_on command time nonce s) refl;
      }

  -- ---- a step
  turn-fresh : (turn : Turn) → IsOrderedTurn s.stored time nonce turn → IsFresh s.stored nonce turn.given
  turn-fresh turn own = record {
    rise = own.rise;
    nonces = λ e c. given-nonce s.stored time nonce own.pairs e (own.gives e c);
    newer = λ e old c found.
        let gives = own.gives e c in
        let same = same_Some gives.now old (sym (given-found s.stored time nonce own.pairs e gives) ∙ found) in
        let next =
        given-version s.stored time nonce own.pairs e gives ∙ ap (λ (d : ElementValue). d.version + 1) same in
        omega (arith, next);
  }

  own-stacks : AreStacksOrdered (captured s)
  own-stacks = captured-ordered s rise are

  turn-answer : (direction : Direction) (answer : Option (Result Turn (List ℕ)))
      → turn_on direction time nonce s ≡ answer
      → AreStacksOrdered (after_turn_of direction answer s) × IsFresh s.stored nonce (given_of (of_step answer))
  turn-answer direction None is = (own-stacks, none-fresh s.stored nonce)
  turn-answer direction (Some (Err id)) is = (are, none-fresh s.stored nonce)
  turn-answer directions.Undo (Some (Ok turn)) is =
      let own = turn-ordered s.stored time nonce (captured s).undo (captured s).redo turn own-stacks.undo
      own-stacks.redo is in
      (record { undo = own.from; redo = own.to }, turn-fresh turn own)
  turn-answer directions.Redo (Some (Ok turn)) is =
      let own = turn-ordered s.stored time nonce (captured s).redo (captured s).undo turn own-stacks.redo
      own-stacks.undo is in
      (record { undo = own.to; redo = own.from }, turn-fresh turn own)

  turn-is : (direction : Direction) → IsOwnAct s nonce (turn_by direction time nonce s)
  unfolding turn_by
  turn-is direction =
      let own = turn-answer direction (turn_on direction time nonce s) refl in
      record {
        stored = turn-stored direction (turn_on direction time nonce s) s;
        undo = own.0.undo;
        redo = own.0.redo;
        gives = own.1;
      }

-- each is so at a replica that is ready
module _ (s : Seat) (ready : IsReady s) (time nonce : ℕ) where
  pub change-own : (command : Command) (capture : Capture)
      → IsOwnAct s.state nonce (change_on command capture time nonce s.state)
  change-own command capture = change-is s.state time nonce ready.stores.ordered
      (record { undo = ready.undo; redo = ready.redo }) command capture

  pub turn-own : (direction : Direction) → IsOwnAct s.state nonce (turn_by direction time nonce s.state)
  turn-own = turn-is s.state time nonce ready.stores.ordered (record { undo = ready.undo; redo = ready.redo })
