-- The changed elements of a command, or its refusal. This project's own.
use Rattle.std.specs.Prelude.{ℕ, ◌==◌, List, [], ◌∷◌, Bool, ◌&&◌, Option, Some, None, is_some, Result, Ok, Err, find, filter_map, if◌then◌else◌}
use Rattle.board_base.specs.declared.stop.Stop.{Stop}
use Rattle.board_base.specs.declared.stop.Stop.TheVariants.{Fault, Memory}
use Rattle.frac_keys.specs.Keys.{bytes_less}
use Rattle.elem.specs.ElementValue.{ElementValue}
use Rattle.elem.specs.Facts.{greatest_whole}
use Rattle.elem.specs.Stamp.{stamped}
use Rattle.elem_store.specs.Updates.{element_of}
use Rattle.view.specs.Shown.{is_live, with_element}
use Rattle.board_commands.specs.declared.command.Command.{Command}
use Rattle.board_commands.specs.declared.command.Command.TheVariants as commands
use Rattle.effects.specs.declared.refusal.Refusal.{Refusal}
use Rattle.effects.specs.declared.refusal.Refusal.TheVariants.{VersionFull}
use Rattle.board_commands.specs.declared.command.Spot.{Spot}
use Rattle.effects.specs.Copying.{as_new, copies_at, shown_among}
use Rattle.effects.specs.Differing.{differs}
use Rattle.effects.specs.Effects.{effect}
use Rattle.effects.specs.Placing.{key_at}
use Rattle.effects.specs.Refusals.{refusal_of}

-- whether a function changes a live element outside the stamp
abbrev pub is_changed : (ElementValue → ElementValue) → ElementValue → Bool
is_changed makes e = is_live e && differs e (makes e)

-- the refusal to change an element at the greatest version
abbrev pub refusal_at : ElementValue → Refusal
refusal_at e = VersionFull e.id

-- whether it would change one that stands at the greatest version
abbrev pub is_full : (ElementValue → ElementValue) → ElementValue → Bool
is_full makes e = is_changed makes e && e.version == greatest_whole

-- what it makes of an element, stamped, if that changes
abbrev pub change_of : (ElementValue → ElementValue) → ℕ → ℕ → ElementValue → Option ElementValue
change_of makes time nonce e =
    if is_changed makes e then Some (stamped time nonce (makes e)) else None

abbrev pub changes_of : (ElementValue → ElementValue) → ℕ → ℕ → List ElementValue
    → List ElementValue
changes_of makes time nonce stored = filter_map (change_of makes time nonce) stored

-- the element as a new one, with the key at the spot
abbrev pub created_at : List ElementValue → ElementValue → Spot → ℕ → ℕ → ElementValue
created_at shown element spot time nonce =
    record (as_new time nonce element) { index = key_at shown spot None None }

-- the new elements of a command
abbrev pub created : List ElementValue → Command → ℕ → ℕ → List ElementValue
created shown (commands.Create element spot) time nonce =
    created_at shown element spot time nonce ∷ []
created shown (commands.Duplicate ids prefix spot) time nonce =
    copies_at shown (shown_among ids shown) prefix spot time nonce
created shown (commands.Paste elements prefix spot) time nonce =
    copies_at shown elements prefix spot time nonce
created shown _ time nonce = []

-- elements in the order of their ids, and a new one at its place; one whose id is there is left out
abbrev pub with_new : ElementValue → List ElementValue → List ElementValue
with_new e elements =
    if is_some (element_of elements e.id) then elements else with_element
    (λ other new. bytes_less other.id new.id) e elements

-- the same of several
abbrev pub with_created : List ElementValue → List ElementValue → List ElementValue
with_created [] elements = elements
with_created (e ∷ new) elements = with_created new (with_new e elements)

-- what comes of a function of elements and new ones: the least id whose element can't change, or
-- the changed elements
abbrev pub outcome_from : Option ElementValue → List ElementValue → List ElementValue
    → Result (List ElementValue) Refusal
outcome_from (Some full) new changes = Err (refusal_at full)
outcome_from None new changes = Ok (with_created new changes)

-- The changed elements of a command in the order of their ids, or its refusal: of the stored
-- elements in the order of their ids, of the shown ones in theirs, and for this time and nonce.
abbrev pub outcome_unless : Option Refusal → List ElementValue → List ElementValue → Command → ℕ
    → ℕ → Result (List ElementValue) Refusal
outcome_unless (Some refusal) stored shown command time nonce = Err refusal
outcome_unless None stored shown command time nonce =
    outcome_from (find (is_full (effect stored shown command)) stored)
    (created shown command time nonce)
    (changes_of (effect stored shown command) time nonce stored)

abbrev pub outcome : List ElementValue → List ElementValue → Command → ℕ → ℕ
    → Result (List ElementValue) Refusal
outcome stored shown command time nonce =
    outcome_unless (refusal_of stored shown command) stored shown command time nonce

-- The call stopped by a fault of which this holds, or for want of memory.
abbrev pub OnFault : Stop Refusal → (Refusal → Type 0) → Type 0
OnFault (Fault refusal) P = P refusal
OnFault Memory P = Unit {0}
