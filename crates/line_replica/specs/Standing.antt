-- What a program holds of a replica, as contracts see it, and which replica of the definitions it
-- stands for. This project's own.
use Rattle.std.specs.Prelude.{◌≡◌, ℕ, List, Option, Some, None}
use Rattle.rand_pcg.specs.Lcg.{Lcg}
use Rattle.reconcile.specs.Ids.{AreStrictlySorted}
use Rattle.scene_file.specs.Heads.{Heading}
use Rattle.replica.specs.Standing.{Kept, ReplicaStandsFor}
use Rattle.session_text.specs.declared.lines.Line.{Line}
use Rattle.line_replica.specs.Living.{Living, Reply, IsReply}
use Rattle.line_replica.specs.Talks.{Answers}

-- its number, what its nonces are drawn from, its head, and what is kept of its replica
pub record Held : Type 0 where
  pub number : ℕ
  pub generator : Lcg
  pub head : Heading
  pub replica : Kept

-- The replica stands for the state, whose held ids rise, and all else is the same. The updates that
-- were taken aren't held.
pub record LifeStandsFor (held : Held) (l : Living) : Type 0 where
  pub number : held.number ≡ l.number
  pub generator : held.generator ≡ l.generator
  pub head : held.head ≡ l.head
  pub replica : ReplicaStandsFor held.replica l.seat.state
  pub rising : AreStrictlySorted l.seat.state.held

-- A call gave this text and left this, as the reply says.
pub record IsGiven (reply : Reply) (answer : List ℕ) (held : Held) : Type 0 where
  pub text : answer ≡ reply.text
  pub stands : LifeStandsFor held reply.after

-- A call gave this text as the answer of a line, and left this.
pub record HasAnswered (l : Living) (line : Line) (answer : List ℕ) (held : Held) : Type 0 where
  pub reply : Reply
  pub is : IsReply l line reply
  pub given : IsGiven reply answer held

-- ---- before and after the opening
abbrev pub TalkStandsFor : Option Held → Option Living → Type 0
TalkStandsFor None None = Unit {0}
TalkStandsFor None (Some l) = ⊥
TalkStandsFor (Some held) None = ⊥
TalkStandsFor (Some held) (Some l) = LifeStandsFor held l

-- A call gave this text as the answer of a line of bytes, and left this.
pub record HasTold (old : Option Living) (bytes answer : List ℕ) (held : Option Held) : Type 0 where
  pub after : Option Living
  pub answers : Answers old bytes answer after
  pub stands : TalkStandsFor held after
