-- What a scene has beside its elements, and what the heads of several scenes are joined to. That
-- the least text counts is this project's own.
use Rattle.std.specs.Prelude.{◌≡◌, ◌↔◌, ℕ, List, [], ◌∷◌, false, Option, Some, None, Contains, flat_map, if◌then◌else◌}
use Rattle.json_text.specs.Characters.{quote}
use Rattle.json_text.specs.Compact.{Member as Pair}
use Rattle.json_text.specs.Members.{pairs}
use Rattle.json_text.specs.declared.text.Member.{Member}
use Rattle.scene_json.specs.Named.{HaveRisingNames}
use Rattle.frac_keys.specs.Keys.{bytes_less}
use Rattle.file_table.specs.Table.{AreLeastEntries, EntriesNest}

-- A head as contracts see it: the source, the settings in the order of their names, and the pairs
-- of id and entry of the files, in the order of the ids.
pub record Heading : Type 0 where
  pub source : Option (List ℕ)
  pub app_state : List Member
  pub files : List Pair

-- The names of settings rise, and each value nests at most 126, so that a scene with it nests at
-- most 128.
pub record IsHeading (head : Heading) : Type 0 where
  pub ordered : HaveRisingNames (pairs head.app_state)
  pub nest : EntriesNest 126 (pairs head.app_state)

-- of two sources the one whose string is less by its bytes
abbrev pub lesser_source : Option (List ℕ) → Option (List ℕ) → Option (List ℕ)
lesser_source None other = other
lesser_source (Some source) None = Some source
lesser_source (Some source) (Some other) =
    if bytes_less (quote other) (quote source) then Some other else Some source

-- the least source of the heads that have one
abbrev pub least_source : List Heading → Option (List ℕ)
least_source [] = None
least_source (head ∷ heads) = lesser_source head.source (least_source heads)

-- all settings and all files of heads
abbrev pub settings_of : List Heading → List Pair
settings_of heads = flat_map (λ (head : Heading). pairs head.app_state) heads

abbrev pub files_of : List Heading → List Pair
files_of heads = flat_map (λ (head : Heading). head.files) heads

-- The source is the least of the heads', and of each name and each id the least setting and the
-- least file's entry counts.
pub record IsJoinedHead (heads : List Heading) (head : Heading) : Type 0 where
  pub source : head.source ≡ least_source heads
  pub app_state : AreLeastEntries (settings_of heads) (pairs head.app_state)
  pub files : AreLeastEntries (files_of heads) head.files

-- A head has this source, and none has a lesser one.
pub record IsLeastSource (heads : List Heading) (source : List ℕ) : Type 0 where
  pub among : (head : Heading) × Contains heads head × (head.source ≡ Some source)
  pub least : (head : Heading) (other : List ℕ) → Contains heads head → head.source ≡ Some other
      → bytes_less (quote other) (quote source) ≡ false

-- The heads of the one list are those of the other one: order and repeats don't count.
abbrev pub HaveSameHeads : List Heading → List Heading → Type 0
HaveSameHeads heads others = (head : Heading) → Contains heads head ↔ Contains others head
