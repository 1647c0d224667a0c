-- Tables of files: for each id an entry, which is a compact text. That the least of several entries
-- counts is this project's own.
use Rattle.std.specs.Prelude.{◌≡◌, ℕ, List, [], ◌∷◌, Bool, true, false, Option, Some, None, Contains, bytes_eq, if◌then◌else◌}
use Rattle.std.specs.List.{AllByRecursion, IsDistinct}
use Rattle.json_text.specs.Compact.{Member as Pair}
use Rattle.json_text.specs.Parts.{names_of}
use Rattle.json_text.specs.Value.{IsCompact}
use Rattle.scene_json.specs.Named.{value_at, HaveRisingNames}
use Rattle.frac_keys.specs.Keys.{bytes_less}

-- an entry, or another one that is less than it by its bytes
abbrev pub lesser : List ℕ → List ℕ → List ℕ
lesser entry other = if bytes_less other entry then other else entry

-- an entry, or another one if there is one and it is less
abbrev pub lesser_of : List ℕ → Option (List ℕ) → List ℕ
lesser_of entry None = entry
lesser_of entry (Some other) = lesser entry other

-- the least of the entries that were given for an id, if there is one
abbrev pub least_entry : List Pair → List ℕ → Option (List ℕ)
least_entry [] id = None
least_entry (file ∷ files) id =
    if bytes_eq id file.0 then Some (lesser_of file.1 (least_entry files id)) else least_entry files
    id

-- whether an entry takes the place of the one that there is: there is none, or a greater one
abbrev pub takes_place : Option (List ℕ) → List ℕ → Bool
takes_place None entry = true
takes_place (Some old) entry = bytes_less entry old

-- An entry was given for the id, and no other one of it is less.
pub record IsLeast (given : List Pair) (id entry : List ℕ) : Type 0 where
  pub among : Contains given (id, entry)
  pub least : (other : List ℕ) → Contains given (id, other) → bytes_less other entry ≡ false

-- These are the files of the entries that were given: of each id the least, in the order of the
-- ids.
pub record AreLeastEntries (given files : List Pair) : Type 0 where
  pub ordered : HaveRisingNames files
  pub each : (id : List ℕ) → value_at id files ≡ least_entry given id

-- Each entry nests at most so deep.
abbrev pub EntriesNest : ℕ → List Pair → Type 0
EntriesNest limit files = AllByRecursion (λ (file : Pair). IsCompact limit file.1) files

-- No id comes twice, and each entry nests at most 126, so that a scene with it nests at most 128.
pub record HaveFiles (entries : List Pair) : Type 0 where
  pub distinct : IsDistinct bytes_eq (names_of entries)
  pub nest : EntriesNest 126 entries
