-- Where an element stands among what is shown. This project's own.
use Rattle.std.specs.Prelude.{◌≡◌, List, [], ◌∷◌, ◌++◌}
use Rattle.elem.specs.ElementValue.{ElementValue}
use Rattle.board_commands.specs.declared.command.Spot.{Spot}
use Rattle.board_commands.specs.declared.command.Spot.TheVariants.{Bottom, Top, After}

-- The element is the lowest of these, the topmost, or the next one above the element of an id.
abbrev pub StandsAt : List ElementValue → ElementValue → Spot → Type 0
StandsAt shown e Bottom = (above : List ElementValue) × (shown ≡ e ∷ above)
StandsAt shown e Top = (below : List ElementValue) × (shown ≡ below ++ e ∷ [])
StandsAt shown e (After id) =
    (below : List ElementValue) × (next : ElementValue) × (above : List ElementValue)
    × (shown ≡ below ++ next ∷ e ∷ above) × (next.id ≡ id)
