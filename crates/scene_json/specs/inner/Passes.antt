-- What a pass over the bytes of a text meets.
-- Only this crate's own bodies and proofs need it.
use Rattle.std.specs.Prelude.{◌≡◌, ◌≢◌, ◌⊎◌, ℕ, ◌-◌, List, [], ◌∷◌, ◌++◌, Option, Some, All, Bool, not, ◌&&◌, ◌==◌, if◌then◌else◌, take, drop, map}
use Rattle.std.specs.List.{AllByRecursion}
use Rattle.std.specs.Str.{IsUtf8}
use Rattle.json_text.specs.Characters.{quotation_mark, backslash}
use Rattle.json_text.specs.Tree.{Container, object}
use Rattle.json_text.specs.Compact.{Member as Pair, member_text, array_text}
use Rattle.json_text.specs.Value.{IsCompact}
use Rattle.scene_json.specs.Passes.{IsEnd, left_text, behind_item}

-- What stands behind a string, of which these bytes are the rest: it ends at the first `"` without
-- a `\` before it that escapes it. RFC 8259, section 7.
abbrev pub behind_string : Bool → List ℕ → List ℕ
behind_string escaped [] = []
behind_string escaped (b ∷ bs) =
    if b == quotation_mark && not escaped then bs else behind_string (b == backslash && not escaped)
    bs

-- A value in a container that is its own compact text, and nests at most 127, stands at the front;
-- the rest follows it.
pub record Compacted (bytes text rest : List ℕ) : Type 0 where
  pub compact : IsCompact 127 text
  pub parts : bytes ≡ text ++ rest
  pub ends : IsEnd rest

-- What stands from one offset on is a value in a container, which ends at the other one.
abbrev pub EndsAt : List ℕ → ℕ → ℕ → Type 0
EndsAt bytes at end =
    (text rest : List ℕ) → Compacted (drop at bytes) text rest → (drop end bytes ≡ rest)
    × (take (end - at) (drop at bytes) ≡ text)

-- Whatever stands behind the end of an item or a member stands, its comma passed, from the other
-- offset on.
abbrev pub GoesOn : List ℕ → ℕ → ℕ → Type 0
GoesOn bytes end next =
    (c : Container) (rest : List ℕ) (more : List (List ℕ))
    → drop end bytes ≡ behind_item c rest more
    → drop next bytes ≡ left_text c rest more

-- These members stand at the front, from the first one on; the rest follows the closing bracket.
pub record StandHere (bytes : List ℕ) (members : List Pair) (rest : List ℕ) : Type 0 where
  pub named : AllByRecursion (λ (m : Pair). IsUtf8 m.0) members
  pub valued : AllByRecursion (λ (m : Pair). IsCompact 127 m.1) members
  pub here : bytes ≡ left_text object rest (map member_text members)

-- It isn't the member to stop at: it has another name, or no array.
abbrev pub IsPassed : Option (List ℕ) → Pair → Type 0
IsPassed stop member = stop ≡ Some member.0 → (items : List (List ℕ)) → member.1 ≢ array_text items

-- Of these members some are passed, up to one to stop at, whose array stands at the front now.
pub record IsStopped (stop : Option (List ℕ)) (all passed : List Pair) (rest bytes : List ℕ) :
    Type 0 where
  pub name : List ℕ
  pub items : List (List ℕ)
  pub behind : List Pair
  pub parts : all ≡ passed ++ (name, array_text items) ∷ behind
  pub stops : stop ≡ Some name
  pub compact : AllByRecursion (IsCompact 127) items
  pub named : AllByRecursion (λ (m : Pair). IsUtf8 m.0) behind
  pub valued : AllByRecursion (λ (m : Pair). IsCompact 127 m.1) behind
  pub here : bytes ≡ array_text items ++ behind_item object rest (map member_text behind)

-- All these members are passed, and the closing bracket stands at the front now; or it stopped
-- before.
abbrev pub HaveEnded : Option (List ℕ) → List Pair → List Pair → List ℕ → List ℕ → Type 0
HaveEnded stop all passed rest bytes =
    ((passed ≡ all) × All (IsPassed stop) passed × (bytes ≡ 125 ∷ rest))
    ⊎ IsStopped stop all passed rest bytes
