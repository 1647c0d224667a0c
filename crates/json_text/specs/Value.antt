-- JSON values, and the first fault of a text. RFC 8259; the limits and the places of faults are
-- this project's own.
use Rattle.std.specs.Prelude.{◌≡◌, ◌≢◌, ◌⊎◌, ℕ, suc, ◌<◌, ◌≤◌, List, [], ◌∷◌, ◌++◌, length, take, drop, replicate, Some, slice_get, Bool, true, false, ◌||◌, ◌==◌, encode_utf8}
use Rattle.std.specs.Char.{IsScalar}
use Rattle.json_text.specs.Characters.{is_blank, is_digit}
use Rattle.json_text.specs.Tree.{Tree, spelling, IsGood, IsNumber, depth}
use Rattle.json_text.specs.Compact.{compact}

-- These bytes are one value with this compact text, and at most so many brackets are open in it at
-- once.
pub record Value (limit : ℕ) (bytes text : List ℕ) : Type 0 where
  pub tree : Tree
  pub good : IsGood tree
  pub shallow : depth tree ≤ limit
  pub spells : spelling tree ≡ bytes
  pub means : compact tree ≡ text

-- a value that is its own compact text
abbrev pub IsCompact : ℕ → List ℕ → Type 0
IsCompact limit text = Value limit text text

-- what may go on with a number: a digit, `.`, `e`, `E`, `+` or `-`
abbrev pub extends_number : ℕ → Bool
extends_number b = is_digit b || (b == 46 || (b == 101 || (b == 69 || (b == 43 || b == 45))))

-- A number isn't followed by a byte that may go on with it.
abbrev pub Follows : List ℕ → List ℕ → Type 0
Follows value [] = Unit {0}
Follows value (b ∷ bytes) = IsNumber value → extends_number b ≡ false

-- A text begins with white space and a value of at most 128 open brackets with this compact text;
-- the rest follows it.
pub record Stands (bytes text rest : List ℕ) : Type 0 where
  pub blank : List ℕ
  pub value : List ℕ
  pub parts : bytes ≡ blank ++ (value ++ rest)
  pub space : is_blank blank ≡ true
  pub reads : Value 128 value text
  pub ends : Follows value rest

-- Some continuation makes these bytes white space and a value of at most so many open brackets.
pub record Begins (limit : ℕ) (bytes : List ℕ) : Type 0 where
  pub more : List ℕ
  pub blank : List ℕ
  pub value : List ℕ
  pub text : List ℕ
  pub parts : bytes ++ more ≡ blank ++ value
  pub space : is_blank blank ≡ true
  pub reads : Value limit value text

-- the longest stretch at the front that some continuation makes a value has this length
pub record IsLongest (bytes : List ℕ) (n : ℕ) : Type 0 where
  pub within : n ≤ length bytes
  pub begins : Begins 128 (take n bytes)
  pub stops : n < length bytes → Begins 128 (take (suc n) bytes) → ⊥

-- The end of these bytes lies in a string: after zeros that an escape may still want a `\` may
-- come, which stands in strings alone.
abbrev pub IsInString : List ℕ → Type 0
IsInString bytes = (zeros : ℕ) × Begins 128 (bytes ++ (replicate zeros 48 ++ 92 ∷ []))

-- a first part of the UTF-8 bytes of a character, neither empty nor whole
abbrev pub IsUnfinished : List ℕ → Type 0
IsUnfinished bytes = (c first : ℕ) × (more next : _) × IsScalar c × (bytes ≡ first ∷ more)
    × (encode_utf8 c ≡ bytes ++ next) × (next ≢ [])

-- no value stands at the front of the text
abbrev pub IsFaulty : List ℕ → Type 0
IsFaulty bytes = (text rest : List ℕ) → Stands bytes text rest → ⊥

-- Here a bracket stands that would be the 129th open one and could stand but for the limit.
pub record IsTooDeepBracket (bytes : List ℕ) (n : ℕ) : Type 0 where
  pub longest : IsLongest bytes n
  pub bracket : (slice_get bytes n ≡ Some 91) ⊎ (slice_get bytes n ≡ Some 123)
  pub deeper : Begins 129 (take (suc n) bytes)

-- From m on a sequence of UTF-8 stands that the byte at n or the text's end breaks off.
pub record IsBrokenOff (bytes : List ℕ) (m n : ℕ) : Type 0 where
  pub longest : IsLongest bytes n
  pub before : m < n
  pub unfinished : IsUnfinished (drop m (take n bytes))

-- The byte at n stands in a string and begins no sequence of UTF-8.
pub record IsStray (bytes : List ℕ) (n : ℕ) : Type 0 where
  pub longest : IsLongest bytes n
  pub inside : IsInString (take n bytes)
  pub byte : ℕ
  pub read : slice_get bytes n ≡ Some byte
  pub begins_none : (c : ℕ) (more : List ℕ) → IsScalar c → encode_utf8 c ≡ byte ∷ more → ⊥

abbrev pub IsBadUtf8 : List ℕ → ℕ → Type 0
IsBadUtf8 bytes m = ((n : ℕ) × IsBrokenOff bytes m n) ⊎ IsStray bytes m

-- any other fault: at the first byte that can't go on with a value, or at the text's end
pub record IsBadSyntax (bytes : List ℕ) (n : ℕ) : Type 0 where
  pub longest : IsLongest bytes n
  pub not_deep : IsTooDeepBracket bytes n → ⊥
  pub not_utf8 : (m : ℕ) → IsBadUtf8 bytes m → ⊥
