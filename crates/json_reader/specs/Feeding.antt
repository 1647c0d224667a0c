-- Values that are read from pieces of a stream. This project's own.
use Rattle.std.specs.Prelude.{◌≡◌, ℕ, ◌+◌, ◌≤◌, List, [], ◌∷◌, ◌++◌, Option, None, if◌then◌else◌, length, drop}
use Rattle.json_text.specs.Characters.{is_space}
use Rattle.json_text.specs.Value.{Begins, Stands}
use Rattle.json_reader.specs.declared.fault.JsonFault.{JsonFault}

-- the bytes behind the white space at their front
abbrev pub behind_space : List ℕ → List ℕ
behind_space [] = []
behind_space (b ∷ bytes) = if is_space b then behind_space bytes else b ∷ bytes

-- What is seen of a feed: the bytes that were used since the end of the last value, behind the
-- white space at their front; how many bytes were used in all; and the fault that it has met.
pub record Feeding : Type 0 where
  pub rest : List ℕ
  pub used : ℕ
  pub fault : Option JsonFault

-- Some continuation makes these bytes a value behind white space, and none has ended with them: one
-- that has stands there whatever follows.
pub record IsUnderWay (bytes : List ℕ) : Type 0 where
  pub begins : Begins 128 bytes
  pub unended : (text : List ℕ) → ((more : List ℕ) → Stands (bytes ++ more) text more) → ⊥

-- The feed has used the bytes of this stream but for those that are left, the last value ended at
-- this offset, and no fault was met.
pub record IsAt (stream : List ℕ) (start : ℕ) (left : List ℕ) (feed : Feeding) : Type 0 where
  pub within : start ≤ length stream
  pub stretch : List ℕ
  pub parts : drop start stream ≡ stretch ++ left
  pub kept : behind_space stretch ≡ feed.rest
  pub counted : feed.used + length left ≡ length stream
  pub sound : feed.fault ≡ None
