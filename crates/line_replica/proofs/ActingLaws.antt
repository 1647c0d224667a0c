-- What comes of an act of a replica is what the definitions say.
use Rattle.std.proofs.Common.{◌≡◌, ℕ, List, Option, Some, Result, Ok, Err, sym, ap, ◌∙◌, subst}
use Rattle.elem.specs.ElementValue.{ElementValue}
use Rattle.view.specs.Shown.{live_elements, shown}
use Rattle.effects.specs.Changed.{outcome}
use Rattle.effects.specs.declared.refusal.Refusal.{Refusal}
use Rattle.effects.specs.declared.refusal.Refusal.TheVariants.{VersionFull}
use Rattle.board_commands.specs.declared.command.Capture.{Capture}
use Rattle.board_commands.specs.declared.command.Command.{Command}
use Rattle.history.specs.declared.planned.Direction.{Direction}
use Rattle.history.specs.declared.step.Step.{Step}
use Rattle.history.specs.declared.step.Step.TheVariants.{Done, Nothing}
use Rattle.undo_model.specs.Steps.{Turn}
use Rattle.replica.specs.Standing.{Kept, ReplicaStandsFor}
use Rattle.replica.specs.State.{State, IsStepAnswer, after_given, after_outcome, after_turn, after_turn_of, outcome_on, turn_on}
use Rattle.session.specs.Worlds.{change_on, turn_by}
use Rattle.line_replica.specs.Living.{command_text, refusal_text, step_text, update_text}
use Rattle.line_replica.specs.inner.Acting.{IsActed, done_text}

-- ---- a change
module _ (command : Command) (capture : Capture) (time nonce : ℕ) (old : Kept) (s : State)
    (stands : ReplicaStandsFor old s) where
  found : (answer : Result (List ElementValue) Refusal)
      → outcome old.stored (shown (live_elements old.stored)) command time nonce ≡ answer
      → outcome_on command time nonce s ≡ answer
  found answer is = subst (λ es. outcome es (shown (live_elements es)) command time nonce ≡ answer) stands.stored is

  pub change-made : (given : List ElementValue) (text : List ℕ) (new : Kept)
      → outcome old.stored (shown (live_elements old.stored)) command time nonce ≡ Ok given
      → text ≡ update_text given → ReplicaStandsFor new (after_given capture given s)
      → IsActed (command_text (outcome_on command time nonce s)) (change_on command capture time nonce s) text new
  unfolding change_on
  change-made given text new is told after =
      let same = sym (found (Ok given) is) in
      record {
        text = told ∙ ap command_text same;
        stands =
            subst (λ o. ReplicaStandsFor new (after_outcome capture o s)) same after;
      }

  pub change-refused : (refusal : Refusal) (text : List ℕ) (new : Kept)
      → outcome old.stored (shown (live_elements old.stored)) command time nonce ≡ Err refusal
      → text ≡ refusal_text (Some refusal) → new ≡ old
      → IsActed (command_text (outcome_on command time nonce s)) (change_on command capture time nonce s) text new
  unfolding change_on
  change-refused refusal text new is told kept =
      let same = sym (found (Err refusal) is) in
      record {
        text = told ∙ ap command_text same;
        stands = subst (λ o. ReplicaStandsFor new (after_outcome capture o s)) same
            (subst (λ (r : Kept). ReplicaStandsFor r s) (sym kept) stands);
      }

-- ---- undo and redo
step-told : (step : Step) (found : Option (Result Turn (List ℕ))) → IsStepAnswer step found
    → done_text step ≡ step_text found
step-told (Done given) found (turn, is, same) = ap update_text same ∙ sym (ap step_text is)
step-told Nothing found is = sym (ap step_text is)

module _ (direction : Direction) (time nonce : ℕ) (s : State) where
  pub turn-made : (step : Step) (text : List ℕ) (new : Kept) → IsStepAnswer step (turn_on direction time nonce s)
      → text ≡ done_text step → ReplicaStandsFor new (after_turn direction time nonce s)
      → IsActed (step_text (turn_on direction time nonce s)) (turn_by direction time nonce s) text new
  unfolding turn_by
  turn-made step text new is told after =
      record { text = told ∙ step-told step (turn_on direction time nonce s) is; stands = after }

  pub turn-full : (id text : List ℕ) (new : Kept) → turn_on direction time nonce s ≡ Some (Err id)
      → text ≡ refusal_text (Some (VersionFull id)) → ReplicaStandsFor new s
      → IsActed (step_text (turn_on direction time nonce s)) (turn_by direction time nonce s) text new
  unfolding turn_by
  turn-full id text new is told stands = record {
    text = told ∙ sym (ap step_text is);
    stands = subst (λ o. ReplicaStandsFor new (after_turn_of direction o s)) (sym is) stands;
  }
