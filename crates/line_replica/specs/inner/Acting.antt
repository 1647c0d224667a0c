-- What comes of an act of a replica, before it is one of a living replica. Only contracts of
-- private functions cite this.
use Rattle.std.specs.Prelude.{◌≡◌, ℕ, List, None}
use Rattle.history.specs.declared.step.Step.{Step}
use Rattle.history.specs.declared.step.Step.TheVariants.{Done, Nothing}
use Rattle.replica.specs.Standing.{Kept, ReplicaStandsFor}
use Rattle.session.specs.Worlds.{Act}
use Rattle.line_replica.specs.Living.{refusal_text, update_text}

-- An act is told so, and the replica stands for the state after it.
pub record IsActed (told : List ℕ) (act : Act) (given : List ℕ) (replica : Kept) : Type 0 where
  pub text : given ≡ told
  pub stands : ReplicaStandsFor replica act.state

-- what a step is answered with
abbrev pub done_text : Step → List ℕ
done_text (Done given) = update_text given
done_text Nothing = refusal_text None
