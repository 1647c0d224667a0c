-- Statuses that no run of the top call ends with, form by form.
use Rattle.std.proofs.Common.{◌≡◌, ◌≢◌, Option, Some, None, refl, ◌∙◌, sym, arith}
use Rattle.board_ends.specs.Counts.{Rose}
use Rattle.commands.specs.declared.status.Status.{Status}
use Rattle.commands.specs.declared.status.Status.TheVariants.{Usage}
use Rattle.commands.specs.declared.words.ProgramCommand.{ProgramCommand}
use Rattle.commands.specs.declared.words.Drill.{Drill}
use Rattle.commands.specs.declared.words.Keeping.{Keeping}
use Rattle.commands.specs.declared.words.Request.{Request}
use Rattle.commands.specs.declared.words.Request.TheVariants as request
use Rattle.commands.specs.declared.words.Service.{Service}

-- a count that stays at 0 hasn't risen
pub stays : Rose 0 0 → ⊥
stays rose = omega (arith, rose)

-- what no form of the words ends with
pub never : (asks : Option Request) (result status : Status) → status ≢ Usage → (asks ≡ None → result ≡ Usage)
    → ((command : ProgramCommand) → asks ≡ Some (request.Answer command) → result ≡ status → ⊥)
    → ((service : Service) → asks ≡ Some (request.Serve service) → result ≡ status → ⊥)
    → ((drill : Drill) → asks ≡ Some (request.Drill drill) → result ≡ status → ⊥)
    → ((keeping : Keeping) → asks ≡ Some (request.Keep keeping) → result ≡ status → ⊥) → result ≢ status
never None result status other usage answers serves drills keeps is = other (sym is ∙ usage refl)
never (Some (request.Answer command)) result status other usage answers serves drills keeps is = answers command refl is
never (Some (request.Serve service)) result status other usage answers serves drills keeps is = serves service refl is
never (Some (request.Drill drill)) result status other usage answers serves drills keeps is = drills drill refl is
never (Some (request.Keep keeping)) result status other usage answers serves drills keeps is = keeps keeping refl is
