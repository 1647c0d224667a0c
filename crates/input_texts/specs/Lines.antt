-- The lines of bytes. Source: POSIX, section 3.206: a line is ended by a line feed, which is in it.
use Rattle.std.specs.Prelude.{◌≡◌, ℕ, List, [], ◌∷◌, ◌++◌, Bool, true, not, ◌==◌, if◌then◌else◌, flat_map}
use Rattle.std.specs.List.{AllByRecursion, list_all}

-- the byte is no line feed
abbrev pub is_within_line : ℕ → Bool
is_within_line byte = not (byte == 10)

-- the lines of bytes, where these before them begin a line
abbrev pub lines_behind : List ℕ → List ℕ → List (List ℕ)
lines_behind begun [] = []
lines_behind begun (byte ∷ bytes) =
    if is_within_line byte then lines_behind (begun ++ byte ∷ []) bytes else (begun ++ byte ∷ [])
    ∷ lines_behind [] bytes

-- what stands behind the last of them
abbrev pub begun_behind : List ℕ → List ℕ → List ℕ
begun_behind begun [] = begun
begun_behind begun (byte ∷ bytes) =
    if is_within_line byte then begun_behind (begun ++ byte ∷ []) bytes else begun_behind [] bytes

-- the lines of bytes, and what stands behind the last one
abbrev pub lines_of : List ℕ → List (List ℕ)
lines_of bytes = lines_behind [] bytes

abbrev pub begun_of : List ℕ → List ℕ
begun_of bytes = begun_behind [] bytes

-- A line feed ends the line, and stands nowhere else in it.
pub record IsLine (line : List ℕ) : Type 0 where
  pub front : List ℕ
  pub parts : line ≡ front ++ 10 ∷ []
  pub within : list_all is_within_line front ≡ true

-- The bytes are these lines, one after the other, and then these bytes, in which is no line feed.
pub record AreLines (bytes : List ℕ) (lines : List (List ℕ)) (begun : List ℕ) : Type 0 where
  pub parts : bytes ≡ flat_map (λ line. line) lines ++ begun
  pub each : AllByRecursion IsLine lines
  pub within : list_all is_within_line begun ≡ true
