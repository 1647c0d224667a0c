-- What the member of a session's text may be, and what it stands for: each form is a relation
-- between what was found under the member's name and what that is read as. This project's own.
use Rattle.std.specs.Prelude.{◌≡◌, ℕ, ◌<◌, ◌≤◌, List, [], ◌∷◌, Option, Some, None, codes, bytes_eq}
use Rattle.std.specs.List.{AllByRecursion}
use Rattle.json_text.specs.Characters.{quote}
use Rattle.json_text.specs.Compact.{Member as Pair, array_text}
use Rattle.json_text.specs.Value.{IsCompact}
use Rattle.json_text.specs.declared.text.Member.{Member}
use Rattle.scene_json.specs.Named.{value_at}
use Rattle.json_text.specs.FirstOccurrences.{first_texts}
use Rattle.elem.specs.Forms.{find_in, IsText, IsWholeNumber, IsObject, AreTexts, AreOthers}
use Rattle.board_commands.specs.declared.command.Side.{Side}
use Rattle.board_commands.specs.declared.command.Side.TheVariants as sides
use Rattle.board_commands.specs.declared.command.Spot.{Spot}
use Rattle.board_commands.specs.declared.command.Spot.TheVariants as spots
use Rattle.board_commands.specs.declared.command.Capture.{Capture}
use Rattle.board_commands.specs.declared.command.Capture.TheVariants as captures
use Rattle.session_text.specs.declared.event.Pick.{Pick}
use Rattle.session_text.specs.declared.event.Pick.TheVariants as chosen

-- a whole number from the least one on, below the limit
abbrev pub IsFrom : ℕ → ℕ → Option (List ℕ) → ℕ → Type 0
IsFrom least limit found number = IsWholeNumber found number × (least ≤ number) × (number < limit)

-- any value
abbrev pub IsThere : Option (List ℕ) → List ℕ → Type 0
IsThere found value = found ≡ Some value

-- an array
abbrev pub IsArray : Option (List ℕ) → List (List ℕ) → Type 0
IsArray found items = AllByRecursion (IsCompact 127) items × (found ≡ Some (array_text items))

-- an object
abbrev pub HasObject : Option (List ℕ) → List Pair → Type 0
HasObject found members = (value : List ℕ) × (found ≡ Some value) × IsObject value members

-- a value that nests at most 100
abbrev pub IsShallow : Option (List ℕ) → List ℕ → Type 0
IsShallow found value = (found ≡ Some value) × IsCompact 100 value

-- an array of texts, of which a repeated one counts once
abbrev pub AreIds : Option (List ℕ) → List (List ℕ) → Type 0
AreIds found ids = (texts : List (List ℕ)) × AreTexts found texts × (ids ≡ first_texts texts)

abbrev pub capture_text : Capture → List ℕ
capture_text captures.Now = quote (codes "now")
capture_text captures.Later = quote (codes "later")
capture_text captures.Never = quote (codes "never")

-- the word for a capture; a missing one is now
abbrev pub IsCapture : Option (List ℕ) → Capture → Type 0
IsCapture None capture = capture ≡ captures.Now
IsCapture (Some value) capture = value ≡ capture_text capture

abbrev pub side_text : Side → List ℕ
side_text sides.Start = quote (codes "start")
side_text sides.End = quote (codes "end")

-- the word for an end of an arrow
abbrev pub IsSide : Option (List ℕ) → Side → Type 0
IsSide found side = found ≡ Some (side_text side)

-- an object that names an id
abbrev pub IsSpotAfter : List ℕ → List ℕ → Type 0
IsSpotAfter value id =
    (members : List Pair) × IsObject value members × IsText (value_at (codes "after") members) id

-- a word or an object that names an id; a missing spot is the top
abbrev pub IsSpot : Option (List ℕ) → Spot → Type 0
IsSpot None spot = spot ≡ spots.Top
IsSpot (Some value) spots.Top = value ≡ quote (codes "top")
IsSpot (Some value) spots.Bottom = value ≡ quote (codes "bottom")
IsSpot (Some value) (spots.After id) = IsSpotAfter value id

-- an object that nests at most 100, all its members but `elementId`; a missing one has none
abbrev pub IsRest : Option (List ℕ) → List Member → Type 0
IsRest None rest = rest ≡ []
IsRest (Some value) rest =
    IsCompact 100 value × ((members : List Pair) × IsObject value members
    × AreOthers (bytes_eq (codes "elementId")) (find_in members) rest)

-- two values, the numbers of a message, below that of those made so far, and of an element
abbrev pub IsPair : ℕ → List (List ℕ) → ℕ × ℕ → Type 0
IsPair made parts pair =
    (first second : List ℕ) × (parts ≡ first ∷ second ∷ []) × IsFrom 0 made (Some first) pair.0
    × IsWholeNumber (Some second) pair.1

-- the number of a message, or an array of it and of an element's number
abbrev pub IsPick : ℕ → List ℕ → Pick → Type 0
IsPick made item (chosen.All message) = IsFrom 0 made (Some item) message
IsPick made item (chosen.One message element) =
    (parts : List (List ℕ)) × IsArray (Some item) parts × IsPair made parts (message, element)

abbrev pub ArePicks : ℕ → List (List ℕ) → List Pick → Type 0
ArePicks made [] picks = picks ≡ []
ArePicks made (item ∷ items) picks =
    (pick : Pick) × (others : List Pick) × (picks ≡ pick ∷ others) × IsPick made item pick
    × ArePicks made items others

-- an array of picks
abbrev pub HasPicks : ℕ → Option (List ℕ) → List Pick → Type 0
HasPicks made found picks =
    (items : List (List ℕ)) × IsArray found items × ArePicks made items picks
