-- The first fault of a text that begins at an offset.
use Rattle.std.specs.Prelude.{◌≡◌, ℕ, ◌+◌, List, ◌++◌, codes, decimal, drop}
use Rattle.json_text.specs.Value.{IsFaulty, IsTooDeepBracket, IsBadUtf8, IsBadSyntax}
use Rattle.json_reader.specs.declared.fault.JsonFault.{JsonFault}
use Rattle.json_reader.specs.declared.fault.JsonFault.TheVariants.{Syntax, Depth, Utf8}

-- The fault is told by the longest stretch from the offset on that some continuation makes a value;
-- its place counts over all bytes. This project's own.
abbrev pub IsJsonFault : List ℕ → ℕ → JsonFault → Type 0
IsJsonFault bytes at (Syntax place) = (n : ℕ) × (place ≡ at + n) × IsBadSyntax (drop at bytes) n
IsJsonFault bytes at (Depth place) = (n : ℕ) × (place ≡ at + n) × IsTooDeepBracket (drop at bytes) n
IsJsonFault bytes at (Utf8 place) = (n : ℕ) × (place ≡ at + n) × IsBadUtf8 (drop at bytes) n

-- No value stands at the offset, and this is the first fault there.
pub record IsFirstFault (bytes : List ℕ) (at : ℕ) (fault : JsonFault) : Type 0 where
  pub faulty : IsFaulty (drop at bytes)
  pub first : IsJsonFault bytes at fault

-- what is told of a fault
abbrev pub json_words : JsonFault → List ℕ
json_words (Syntax place) = codes "syntax at byte " ++ decimal place
json_words (Depth place) = codes "depth at byte " ++ decimal place
json_words (Utf8 place) = codes "utf8 at byte " ++ decimal place
