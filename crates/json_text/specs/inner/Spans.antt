-- Parts of bytes that are shared.
use Rattle.std.specs.Prelude.{◌≡◌, ℕ, ◌+◌, ◌-◌, ◌<◌, ◌≤◌, List, take, drop, length}
use Rattle.json_text.specs.Characters.{quote}

-- a part of the source, by the offsets of its first byte and of the byte after it
pub record Span : Type 0 where
  pub source : List ℕ
  pub start : ℕ
  pub end : ℕ

-- what stands between two offsets
abbrev pub between : List ℕ → ℕ → ℕ → List ℕ
between bytes start end = take (end - start) (drop start bytes)

abbrev pub bytes_at : Span → List ℕ
bytes_at s = between s.source s.start s.end

-- What stands between two offsets is a text with its quote around it: the byte before it, the text
-- and the byte after it are the quote.
pub record StandsQuoted (bytes : List ℕ) (start end : ℕ) : Type 0 where
  pub begun : 0 < start
  pub rises : start ≤ end
  pub within : end < length bytes
  pub same : between bytes (start - 1) (end + 1) ≡ quote (between bytes start end)
