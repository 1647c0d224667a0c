-- Runs that end with all done, unless memory is wanted. This project's own.
use Rattle.std.specs.Prelude.{◌≡◌, ◌⊎◌, ℕ, List}
use Rattle.board_ends.specs.Counts.{Rose}
use Rattle.board_ends.specs.Ends.{LinksEnd}
use Rattle.room_core.specs.Closing.{LeadToClose}
use Rattle.room_core.specs.Serving.{at_start}
use Rattle.scene_file.specs.declared.scene.Scene.{Scene}
use Rattle.commands.specs.Boards.{IsBoardOf}
use Rattle.commands.specs.Ends.{Span, HasLeft, limit}
use Rattle.commands.specs.Input.{HasScenes}
use Rattle.commands.specs.Serving.{Begun, Ends, room_of}
use Rattle.commands.specs.declared.status.Status.{Status}
use Rattle.commands.specs.declared.status.Status.TheVariants.{Done, Memory}
use Rattle.commands.specs.declared.words.Service.{Service}

-- No fault of the input, of the output or of the links rose.
pub record NoneRose (ends : Ends) : Type 0 where
  pub input : Rose ends.input.before.faults ends.input.after.faults → ⊥
  pub output : Rose ends.output.before.faults ends.output.after.faults → ⊥
  pub links : Rose ends.links.before.faults ends.links.after.faults → ⊥

-- The links lead a room of these scenes, which begins with what their board stores, to a close
-- within the service's limits.
pub record LeadsToClose (service : Service) (scenes : List Scene)
    (links : Span LinksEnd) : Type 0 where
  pub begun : Begun
  pub board : IsBoardOf scenes begun.head begun.stored
  pub leads : LeadToClose service.limits (at_start (room_of begun.stored)) links.before links.after

-- A room that is served over an input that has scenes, where no end fails and the links lead it to
-- a close, ends with all done, or memory is wanted.
abbrev pub IsServedToClose : Service → Ends → Status → Type 0
IsServedToClose service ends result =
    (bytes : List ℕ) (scenes : List Scene) → HasLeft limit ends.input.before bytes
    → HasScenes bytes scenes → NoneRose ends → LeadsToClose service scenes ends.links
    → (result ≡ Done) ⊎ (result ≡ Memory)
