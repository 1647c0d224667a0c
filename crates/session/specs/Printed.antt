-- The text of the report of a session, as a function of its last world and the number of clashes.
-- This project's own.
use Rattle.std.specs.Prelude.{◌≡◌, ℕ, List, [], ◌∷◌, map, length, codes, decimal}
use Rattle.json_text.specs.Compact.{Member as Pair, array_text, object_text}
use Rattle.scene_file.specs.Heads.{Heading}
use Rattle.scene_file.specs.Scenes.{scene_text}
use Rattle.view.specs.Shown.{live_elements}
use Rattle.session_text.specs.declared.session.Session.{Session}
use Rattle.session.specs.Clashes.{HaveClashes}
use Rattle.session.specs.Reports.{shown_at}
use Rattle.session.specs.Texts.{refused_text}
use Rattle.session.specs.Worlds.{Seat, World, all_elements, head_of, last_world}

abbrev pub seat_members : Heading → Seat → List Pair
seat_members head s =
    (codes "scene", scene_text head (shown_at s)) ∷ (codes "taken", decimal (length s.taken))
    ∷ (codes "stored", decimal (length s.state.stored))
    ∷ (codes "live", decimal (length (live_elements s.state.stored)))
    ∷ (codes "undo", decimal (length s.state.undo)) ∷ (codes "redo", decimal (length s.state.redo))
    ∷ []

-- what is told of a replica
abbrev pub seat_text : Heading → Seat → List ℕ
seat_text head s = object_text (seat_members head s)

abbrev pub world_members : Session → World → ℕ → List Pair
world_members session w clashes =
    (codes "replicas", array_text (map (seat_text (head_of session)) w.seats))
    ∷ (codes "messages", decimal (length w.messages))
    ∷ (codes "refused", array_text (map refused_text w.refused))
    ∷ (codes "clashes", decimal clashes) ∷ []

-- what is told of a world
abbrev pub world_text : Session → World → ℕ → List ℕ
world_text session w clashes = object_text (world_members session w clashes)

-- The text of the report of a session: that of its last world.
pub record IsReportText (session : Session) (text : List ℕ) : Type 0 where
  pub clashes : ℕ
  pub counted : HaveClashes [] (all_elements session (last_world session)) clashes
  pub told : text ≡ world_text session (last_world session) clashes
