-- What a drill tells, and how a run of one ends. This project's own.
use Rattle.std.specs.Prelude.{◌≡◌, ℕ, List, [], ◌∷◌, ◌++◌, Bool, true, false, bytes_eq, codes, decimal, length, slice_get, take, Contains}
use Rattle.std.specs.List.{list_all}
use Rattle.std.specs.Option.{option_map_or}
use Rattle.board_ends.specs.Counts.{Rose}
use Rattle.board_ends.specs.Ends.{SinkEnd, Took}
use Rattle.scene_file.specs.Scenes.{scene_text}
use Rattle.session.specs.Clashes.{HaveClashes}
use Rattle.session.specs.Reports.{shown_at}
use Rattle.session.specs.Worlds.{Seat, World, all_elements, head_of, last_world}
use Rattle.session_text.specs.Sessions.{IsSessionOf}
use Rattle.session_text.specs.declared.session.Session.{Session}
use Rattle.view.specs.Shown.{live_elements}
use Rattle.workload.specs.Texts.{drill_text}
use Rattle.commands.specs.Ends.{Span}
use Rattle.commands.specs.Faults.{newline, Noted}
use Rattle.commands.specs.Services.{IsDrillWithinLimits}
use Rattle.commands.specs.declared.status.Fault.TheVariants as fault
use Rattle.commands.specs.declared.status.Status.{Status}
use Rattle.commands.specs.declared.status.Status.TheVariants as status
use Rattle.commands.specs.declared.words.Drill.{Drill}

-- a number of the first of some
abbrev pub of_first : {X : Type 0} → (X → ℕ) → List X → ℕ
of_first number all = option_map_or number (slice_get all 0) 0

-- whether all show one scene, byte for byte
abbrev pub show_one_scene : {X : Type 0} → (X → List ℕ) → List X → Bool
show_one_scene scene [] = true
show_one_scene scene (first ∷ others) =
    list_all (λ other. bytes_eq (scene other) (scene first)) others

-- the line on that
abbrev pub equal_line : Bool → List ℕ
equal_line true = codes "equal yes" ++ newline
equal_line false = codes "equal no" ++ newline

-- What a drill tells besides its own numbers: how many replicas there are, how many messages and
-- refused events; how many elements the first replica stores, and how many of them are live; how
-- many updates clash; and whether all replicas show one scene.
pub record Summary : Type 0 where
  pub replicas : ℕ
  pub messages : ℕ
  pub refused : ℕ
  pub stored : ℕ
  pub live : ℕ
  pub clashes : ℕ
  pub same : Bool

-- its text
abbrev pub summary_text : Drill → Summary → List ℕ
summary_text drill told =
    codes "drill " ++ (decimal drill.seed ++ (codes " " ++ (decimal drill.events ++ (newline
    ++ (codes "replicas " ++ (decimal told.replicas ++ (newline
    ++ (codes "messages " ++ (decimal told.messages ++ (newline
    ++ (codes "refused " ++ (decimal told.refused ++ (newline
    ++ (codes "stored " ++ (decimal told.stored ++ (newline
    ++ (codes "live " ++ (decimal told.live ++ (newline
    ++ (codes "clashes " ++ (decimal told.clashes
    ++ (newline ++ equal_line told.same))))))))))))))))))))))

-- what is told of a session's world with so many clashes
abbrev pub of_world : Session → World → ℕ → Summary
of_world session w clashes = record {
  replicas = length w.seats;
  messages = length w.messages;
  refused = length w.refused;
  stored = of_first (λ (s : Seat). length s.state.stored) w.seats;
  live = of_first (λ (s : Seat). length (live_elements s.state.stored)) w.seats;
  clashes = clashes;
  same = show_one_scene (λ (s : Seat). scene_text (head_of session) (shown_at s)) w.seats;
}

-- The text that a drill tells: that on the last world of the session that the generated text is.
pub record IsDrilled (drill : Drill) (text : List ℕ) : Type 0 where
  pub session : Session
  pub read : IsSessionOf (drill_text drill.seed drill.events) session
  pub clashes : ℕ
  pub counted : HaveClashes [] (all_elements session (last_world session)) clashes
  pub told : text ≡ summary_text drill (of_world session (last_world session) clashes)

-- How a run of a drill ends, by its status: its text was written; or a first part of it, where the
-- output's count of faults rose; or memory was wanted.
abbrev pub EndsDrilling : Drill → Span SinkEnd → Span SinkEnd → Status → Type 0
EndsDrilling drill output notes status.Done =
    (text : List ℕ) × IsDrilled drill text × Took output.before output.after text
EndsDrilling drill output notes status.WriteFault =
    ((text : List ℕ) × (n : ℕ) × IsDrilled drill text
    × Took output.before output.after (take n text))
    × Rose output.before.faults output.after.faults × Noted fault.Write notes.before notes.after
EndsDrilling drill output notes status.Memory = Noted fault.Memory notes.before notes.after
EndsDrilling drill output notes other = ⊥

-- At the end of the session there are four replicas, no two of its updates clash, and all replicas
-- show one scene, byte for byte; and so it is told.
pub record AgreeAtEnd (session : Session) (clashes : ℕ) : Type 0 where
  pub replicas : length (last_world session).seats ≡ 4
  pub none : clashes ≡ 0
  pub scenes : (s other : Seat) → Contains (last_world session).seats s
      → Contains (last_world session).seats other
      → scene_text (head_of session) (shown_at s) ≡ scene_text (head_of session) (shown_at other)
  pub told : (of_world session (last_world session) clashes).same ≡ true

-- In every drill, whatever its text is made of, the replicas agree at the end.
abbrev pub DrillsAgree : Type 0
DrillsAgree =
    (drill : Drill) (text : List ℕ) → IsDrillWithinLimits drill → (drilled : IsDrilled drill text)
    → AgreeAtEnd drilled.session drilled.clashes
