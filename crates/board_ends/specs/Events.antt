use Rattle.std.specs.Prelude.{◌≡◌, ℕ, ◌+◌, List, [], ◌∷◌, ◌++◌, length, Option, sum_by}
use Rattle.std.specs.Option.{option_map, option_and_then}
use Rattle.board_ends.specs.declared.links.LinkEvent.{LinkEvent}
use Rattle.board_ends.specs.declared.links.LinkEvent.TheVariants.{Opened, Text, Closed, Idle}

-- one for the opening of a link, and nothing for any other event
abbrev pub opening_of : LinkEvent → ℕ
opening_of (Opened link) = 1
opening_of (Text link text) = 0
opening_of (Closed link) = 0
opening_of Idle = 0

-- how many links these events opened
abbrev pub opened_count : List LinkEvent → ℕ
opened_count events = sum_by opening_of events

-- The event opens no link, or the one with this number. Links are numbered from 0 in the order of
-- their openings.
abbrev pub OpensAt : ℕ → LinkEvent → Type 0
OpensAt count (Opened link) = link ≡ count
OpensAt count (Text link text) = Unit {0}
OpensAt count (Closed link) = Unit {0}
OpensAt count Idle = Unit {0}

-- The openings among these events are numbered on from this count.
abbrev pub OpensFrom : ℕ → List LinkEvent → Type 0
OpensFrom count [] = Unit {0}
OpensFrom count (event ∷ events) = OpensAt count event × OpensFrom (count + opening_of event) events

-- one item more at the end of what is told
abbrev pub with_last : {X : Type 0} → Option (List X) → X → Option (List X)
with_last items item = option_map (λ told. told ++ item ∷ []) items

-- A send that found its link gone: the number of texts sent before, and the link, at the end of the
-- lost ones, where both are told.
abbrev pub with_lost : Option (List (ℕ × List ℕ)) → Option (List (ℕ × ℕ)) → ℕ
    → Option (List (ℕ × ℕ))
with_lost sent lost link = option_and_then (λ texts. with_last lost (length texts, link)) sent
