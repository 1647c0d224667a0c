-- What is left of the text of an element that is read byte by byte. Only contracts of private
-- functions cite this.
use Rattle.std.specs.Prelude.{◌≡◌, ℕ, ◌<◌, List, [], ◌∷◌, ◌++◌, Bool, false, map, codes, length, drop, if◌then◌else◌, decimal}
use Rattle.json_text.specs.Characters.{quote}
use Rattle.json_text.specs.Compact.{Member as Pair, member_text}
use Rattle.json_text.specs.declared.text.Member.{Member}
use Rattle.elem.specs.declared.cursor.Left.{Left}
use Rattle.elem.specs.declared.cursor.Left.TheVariants.{Open, Closed}
use Rattle.elem.specs.declared.header.Header.{Header}
use Rattle.elem.specs.declared.source.Source.{Source}
use Rattle.elem.specs.declared.value.Value.{Value}
use Rattle.elem.specs.declared.value.Value.TheVariants.{Nothing, Texts, Listing, Target, Members}
use Rattle.elem.specs.declared.value.Start.{Start}
use Rattle.elem.specs.inner.Printing.{header_pair, merged}
use Rattle.elem.specs.Texts.{bound_text}

-- a list from here on, whose items have commas between them: at its first item, or behind one
abbrev pub list_left : ℕ → ℕ → Bool → List (List ℕ) → List ℕ
list_left start close first [] = if first then start ∷ close ∷ [] else close ∷ []
list_left start close first (item ∷ items) =
    (if first then start else 44) ∷ (item ++ list_left start close false items)

-- an object from here on
abbrev pub object_left : Bool → List Pair → List Member → List ℕ
object_left first headers rest = list_left 123 125 first (map member_text (merged headers rest))

-- the value of a member from here on
abbrev pub value_left : Value → List ℕ
value_left Nothing = []
value_left (Texts first texts) = list_left 91 93 first (map quote texts.now)
value_left (Listing first entries) = list_left 91 93 first (map bound_text entries.now)
value_left (Target first target rest at) =
    object_left first ((codes "elementId", quote target.now) ∷ []) (drop at rest.now)
value_left (Members rest at) = object_left false [] (drop at rest.now)

-- the value of a member from its first byte on
abbrev pub start_left : Start → List ℕ
start_left start = start.quote ++ (start.plain.now ++ value_left start.value)

-- the members of an element from here on
abbrev pub open_left : Source → Bool → List Header → List Member → List ℕ
open_left source first headers rest =
    object_left first (map (header_pair source.e.now) headers) rest

abbrev pub members_left : Source → Left → List ℕ
members_left source (Open first headers rest at) =
    open_left source first headers.now (drop at rest.now)
members_left source Closed = []

-- The numbers of the element are written in digits.
pub record IsElementSource (source : Source) : Type 0 where
  pub version : source.version.now ≡ decimal source.e.now.version
  pub nonce : source.nonce.now ≡ decimal source.e.now.nonce
  pub updated : source.updated.now ≡ decimal source.e.now.updated

-- What is left is a piece, which isn't empty, and more.
pub record Splits (left piece more : List ℕ) : Type 0 where
  pub parts : left ≡ piece ++ more
  pub some : 0 < length piece
