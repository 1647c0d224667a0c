-- The text of a drill. This project's own.
use Rattle.std.specs.Prelude.{ℕ, ◌%◌, List, [], ◌∷◌, ◌++◌, ◌==◌, if◌then◌else◌, map, flat_map, reverse, codes, decimal}
use Rattle.std.specs.List.{range_with_len}
use Rattle.json_text.specs.Characters.{quote}
use Rattle.json_text.specs.Compact.{Member as Pair, array_text, object_text}
use Rattle.elem.specs.Texts.{kind_name}
use Rattle.elem.specs.declared.kind.Kind.{Kind}
use Rattle.elem.specs.declared.kind.Kind.TheVariants as kinds
use Rattle.board_commands.specs.declared.command.Capture.{Capture}
use Rattle.session_text.specs.Forms.{capture_text, side_text}
use Rattle.workload.specs.Deeds.{course}
use Rattle.workload.specs.declared.deed.Deed.{Deed}
use Rattle.workload.specs.declared.deed.Deed.TheVariants.{Change, Undo, Redo, Deliver}
use Rattle.workload.specs.declared.deed.Order.{Order}
use Rattle.workload.specs.declared.deed.Order.TheVariants.{Create, SetX, SetY, Place, Bind, Label, Frame, Group, Delete}

-- ---- elements
-- the id of the element of this number, and its text
abbrev pub numbered_id : ℕ → List ℕ
numbered_id number = codes "e" ++ decimal number

unfoldable pub id_text : ℕ → List ℕ
id_text number = quote (numbered_id number)

-- the kind in which it is made
abbrev pub kind_of : ℕ → Kind
kind_of number =
    if number % 5 == 0 then kinds.Rectangle
    else (if number % 5 == 1 then kinds.Ellipse
    else (if number % 5 == 2 then kinds.Arrow
    else (if number % 5 == 3 then kinds.Text
    else kinds.Frame)))

abbrev pub numbered_element_members : ℕ → List Pair
numbered_element_members number =
    (codes "id", id_text number) ∷ (codes "type", quote (kind_name (kind_of number))) ∷ []

unfoldable pub numbered_element_text : ℕ → List ℕ
numbered_element_text number = object_text (numbered_element_members number)

-- ---- commands
abbrev pub set_members : ℕ → List ℕ → ℕ → List Pair
set_members element member value =
    (codes "name", quote (codes "set")) ∷ (codes "id", id_text element)
    ∷ (codes "member", quote member) ∷ (codes "value", decimal value) ∷ []

abbrev pub order_members : Order → List Pair
order_members (Create element) =
    (codes "name", quote (codes "create")) ∷ (codes "element", numbered_element_text element)
    ∷ (codes "spot", quote (codes "top")) ∷ []
order_members (SetX element value) = set_members element (codes "x") value
order_members (SetY element value) = set_members element (codes "y") value
order_members (Place element other) =
    (codes "name", quote (codes "place")) ∷ (codes "id", id_text element)
    ∷ (codes "spot", object_text ((codes "after", id_text other) ∷ [])) ∷ []
order_members (Bind side element other) =
    (codes "name", quote (codes "bind")) ∷ (codes "arrow", id_text element)
    ∷ (codes "end", side_text side) ∷ (codes "target", id_text other)
    ∷ (codes "binding", object_text []) ∷ []
order_members (Label element other) =
    (codes "name", quote (codes "label")) ∷ (codes "container", id_text element)
    ∷ (codes "text", id_text other) ∷ []
order_members (Frame element other) =
    (codes "name", quote (codes "frame")) ∷ (codes "ids", array_text (id_text element ∷ []))
    ∷ (codes "frame", id_text other) ∷ []
order_members (Group element other) =
    (codes "name", quote (codes "group"))
    ∷ (codes "ids", array_text (id_text element ∷ id_text other ∷ []))
    ∷ (codes "group", quote (codes "g")) ∷ []
order_members (Delete element) =
    (codes "name", quote (codes "delete")) ∷ (codes "ids", array_text (id_text element ∷ [])) ∷ []

unfoldable pub order_text : Order → List ℕ
order_text order = object_text (order_members order)

-- ---- events
abbrev pub change_members : ℕ → ℕ → Capture → Order → List Pair
change_members at time capture order =
    (codes "do", quote (codes "change")) ∷ (codes "at", decimal at) ∷ (codes "time", decimal time)
    ∷ (codes "capture", capture_text capture)
    ∷ (codes "command", order_text order) ∷ []

-- an undo or a redo, as this word says
abbrev pub step_members : List ℕ → ℕ → ℕ → List Pair
step_members word at time =
    (codes "do", quote word) ∷ (codes "at", decimal at) ∷ (codes "time", decimal time) ∷ []

abbrev pub delivery_members : ℕ → List ℕ → List Pair
delivery_members to messages =
    (codes "do", quote (codes "deliver")) ∷ (codes "to", decimal to)
    ∷ (codes "picks", array_text (map decimal messages)) ∷ []

unfoldable pub delivery_text : ℕ → List ℕ → List ℕ
delivery_text to messages = object_text (delivery_members to messages)

abbrev pub deed_text : Deed → List ℕ
deed_text (Change at time capture order) = object_text (change_members at time capture order)
deed_text (Undo at time) = object_text (step_members (codes "undo") at time)
deed_text (Redo at time) = object_text (step_members (codes "redo") at time)
deed_text (Deliver to first last) = delivery_text to (first ∷ last ∷ [])

-- the numbers of so many messages, from the first and from the last on
abbrev pub rising : ℕ → List ℕ
rising made = range_with_len 0 made

abbrev pub falling : ℕ → List ℕ
falling made = reverse (rising made)

-- the last four events: each replica is delivered all messages
abbrev pub last_texts : ℕ → List (List ℕ)
last_texts made =
    delivery_text 0 (rising made) ∷ delivery_text 1 (falling made) ∷ delivery_text 2 (rising made)
    ∷ delivery_text 3 (falling made) ∷ []

-- ---- the drill
abbrev pub session_header_members : ℕ → List Pair
session_header_members seed =
    (codes "session", codes "1") ∷ (codes "replicas", codes "4") ∷ (codes "seed", decimal seed)
    ∷ (codes "scene", codes "null") ∷ []

unfoldable pub session_header_text : ℕ → List ℕ
session_header_text seed = object_text (session_header_members seed)

-- a text and the line feed behind it
abbrev pub line : List ℕ → List ℕ
line text = text ++ 10 ∷ []

abbrev pub event_texts : ℕ → ℕ → List (List ℕ)
event_texts seed events =
    map deed_text (course seed events).deeds ++ last_texts (course seed events).made

-- the text of the drill of a seed with so many events before the last four: a line for the header,
-- and one for each event
unfoldable pub drill_text : ℕ → ℕ → List ℕ
drill_text seed events = flat_map line (session_header_text seed ∷ event_texts seed events)
