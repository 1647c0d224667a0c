use Rattle.std.specs.Prelude.{◌≡◌, ℕ, ◌≤◌, List, [], ◌++◌, length, Option, Some, None, IfSome}
use Rattle.std.specs.Option.{option_map}
use Rattle.board_ends.specs.declared.links.LinkEvent.{LinkEvent}

-- What is seen of a source: the bytes still to come, where told, and how many reads failed. This
-- project's own.
pub record SourceEnd : Type 0 where
  pub left : Option (List ℕ)
  pub faults : ℕ

-- What is seen of a sink: the bytes that it took, where told; so many first ones of them that no
-- stop takes away, told by journals alone; and how many of its calls failed. A stop leaves a first
-- part of the bytes, with all that are safe. This project's own.
pub record SinkEnd : Type 0 where
  pub held : Option (List ℕ)
  pub safe : Option ℕ
  pub faults : ℕ

-- What is seen of links: the port of the last call of `listen` that answered Ok, and none before
-- that; how many calls of `listen` there were; the events that `next` gave, and the pairs of link
-- and text that were sent, where told; for each send whose link was gone the number of texts sent
-- before it, and the link, where told; how many calls of `listen` and `next` failed; and how many
-- sends found their link gone. This project's own.
pub record LinksEnd : Type 0 where
  pub port : Option ℕ
  pub listens : ℕ
  pub given : Option (List LinkEvent)
  pub sent : Option (List (ℕ × List ℕ))
  pub lost : Option (List (ℕ × ℕ))
  pub faults : ℕ
  pub gone : ℕ

-- a source and a sink that tell no content, with their counts of faults
abbrev pub untold_source : ℕ → SourceEnd
untold_source faults = record { left = None; faults = faults }

abbrev pub untold_sink : ℕ → SinkEnd
untold_sink faults = record { held = None; safe = None; faults = faults }

-- A source gave these bytes: what was left is these bytes and then what is left now, where told.
-- This project's own.
abbrev pub Gave : SourceEnd → SourceEnd → List ℕ → Type 0
Gave before after bytes = before.left ≡ option_map (λ rest. bytes ++ rest) after.left

-- A sink took these bytes: what is held now is what was held and then these bytes, where told. This
-- project's own.
abbrev pub Took : SinkEnd → SinkEnd → List ℕ → Type 0
Took before after bytes = after.held ≡ option_map (λ held. held ++ bytes) before.held

-- What is safe doesn't fall: where so many bytes were safe, at least as many are safe now. This
-- project's own.
abbrev pub KeepsSafe : SinkEnd → SinkEnd → Type 0
KeepsSafe before after =
    IfSome before.safe (λ least. (safe : ℕ) × (after.safe ≡ Some safe) × (least ≤ safe))

-- No more bytes are safe than are held, where both are told. This project's own.
abbrev pub IsSafeHeld : SinkEnd → Type 0
IsSafeHeld sink = IfSome sink.safe (λ safe. IfSome sink.held (λ held. safe ≤ length held))

-- All bytes that are held are safe, where told. This project's own.
abbrev pub IsSynced : SinkEnd → Type 0
IsSynced sink = sink.safe ≡ option_map length sink.held

-- Nothing is left, where told. This project's own.
abbrev pub IsAtEnd : SourceEnd → Type 0
IsAtEnd source = IfSome source.left (λ rest. rest ≡ [])
