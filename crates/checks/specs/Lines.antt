-- The lines that are told of an input that is checked. This project's own.
use Rattle.std.specs.Prelude.{ℕ, ◌+◌, ◌==◌, nat_le, List, [], ◌∷◌, ◌++◌, Bool, true, false, not, ◌&&◌, Option, Some, None, is_some, if◌then◌else◌, codes, decimal, bytes_eq, flat_map, slice_get}
use Rattle.std.specs.List.{list_all, list_any, position_from}
use Rattle.std.specs.Option.{option_map_or}
use Rattle.json_text.specs.Characters.{quote}
use Rattle.json_text.specs.Compact.{Member as Pair}
use Rattle.json_text.specs.Members.{pairs}
use Rattle.scene_json.specs.Named.{value_at}
use Rattle.elem.specs.ElementValue.{ElementValue}
use Rattle.elem.specs.Order.{beats, has_id}
use Rattle.elem.specs.Texts.{element_members}
use Rattle.elem_read.specs.Faults.{fault_word}
use Rattle.elem_store.specs.Updates.{element_of}
use Rattle.file_table.specs.References.{references}
use Rattle.scene_file.specs.Faults.{scene_fault_words}
use Rattle.scene_file.specs.Heads.{Heading}
use Rattle.checks.specs.declared.judged.Judged.{Judged}
use Rattle.checks.specs.declared.judged.Judged.TheVariants.{Whole, Flawed, Broken}
use Rattle.checks.specs.declared.judged.Spot.{Spot}
use Rattle.checks.specs.declared.judged.Verdict.{Verdict}
use Rattle.checks.specs.declared.judged.Verdict.TheVariants.{Dropped, Read, Faulty}

-- the end of a line, U+000A
abbrev pub newline : List ℕ
newline = 10 ∷ []

-- the line that tells these words of the text with this number
abbrev pub text_line : ℕ → List ℕ → List ℕ
text_line number words = codes "text " ++ (decimal number ++ (codes ": " ++ (words ++ newline)))

-- what tells an id: the string behind a space, if there is one
abbrev pub id_text : Option (List ℕ) → List ℕ
id_text None = []
id_text (Some id) = codes " " ++ quote id

-- the line that tells these words of the element at a place of a text
abbrev pub element_line : ℕ → ℕ → Option (List ℕ) → List ℕ → List ℕ
element_line number place id words =
    text_line number (codes "element " ++ (decimal place ++ (id_text id ++ (codes ": " ++ words))))

-- ---- faults
-- the line on a value of a text's elements, if it is faulty
abbrev pub verdict_line : ℕ → Verdict → List ℕ
verdict_line number Dropped = []
verdict_line number (Read place members) = []
verdict_line number (Faulty place why id) = element_line number place id (fault_word why)

-- the lines on a text: one on each faulty element, or one on its first fault
abbrev pub judged_lines : Judged → List ℕ
judged_lines (Whole number scene verdicts) = []
judged_lines (Flawed number verdicts) = flat_map (verdict_line number) verdicts
judged_lines (Broken number why) = text_line number (scene_fault_words why)

abbrev pub fault_lines : List Judged → List ℕ
fault_lines judged = flat_map judged_lines judged

-- whether a text is a scene
abbrev pub is_whole : Judged → Bool
is_whole (Whole number scene verdicts) = true
is_whole (Flawed number verdicts) = false
is_whole (Broken number why) = false

abbrev pub are_scenes : List Judged → Bool
are_scenes judged = list_all is_whole judged

-- ---- what scenes bring to their board
-- the head of a scene, its elements, and where each of these stands
abbrev pub heads_in : Judged → List Heading
heads_in (Whole number scene verdicts) = scene.head ∷ []
heads_in (Flawed number verdicts) = []
heads_in (Broken number why) = []

abbrev pub updates_in : Judged → List ElementValue
updates_in (Whole number scene verdicts) = scene.elements
updates_in (Flawed number verdicts) = []
updates_in (Broken number why) = []

abbrev pub spot_in : ℕ → Verdict → List Spot
spot_in number Dropped = []
spot_in number (Read place members) =
    record { number = number; place = place; members = members } ∷ []
spot_in number (Faulty place why id) = []

abbrev pub spots_in : Judged → List Spot
spots_in (Whole number scene verdicts) = flat_map (spot_in number) verdicts
spots_in (Flawed number verdicts) = []
spots_in (Broken number why) = []

abbrev pub heads_of : List Judged → List Heading
heads_of judged = flat_map heads_in judged

abbrev pub updates_of : List Judged → List ElementValue
updates_of judged = flat_map updates_in judged

abbrev pub spots_of : List Judged → List Spot
spots_of judged = flat_map spots_in judged

-- ---- elements that aren't kept
-- whether an element has this id, and the stored one of the id doesn't beat it
abbrev pub is_kept : List ElementValue → List ℕ → ElementValue → Bool
is_kept stored id e =
    has_id id e && option_map_or (λ (other : ElementValue). not (beats other e)) (element_of stored id) false

-- which of the elements is kept of an id, counted from 0: the first that the stored one doesn't beat
abbrev pub kept_of : List ElementValue → List ElementValue → List ℕ → Option ℕ
kept_of stored updates id = position_from (is_kept stored id) 0 updates

-- whether this is the number that was found
abbrev pub is_at : ℕ → Option ℕ → Bool
is_at n found = option_map_or (λ k. k == n) found false

-- the line on the element with this number at a spot, if it isn't the kept one of its id
abbrev pub beaten_line : (List ℕ → Option ℕ) → ℕ → ElementValue → Spot → List ℕ
beaten_line kept n e spot =
    if is_at n (kept e.id) then [] else
    element_line spot.number spot.place (Some e.id) (codes "beaten")

-- these lines on elements that stand at these spots; the first of them has this number
abbrev pub beaten_lines : (List ℕ → Option ℕ) → ℕ → List ElementValue → List Spot → List ℕ
beaten_lines kept n [] spots = []
beaten_lines kept n (e ∷ updates) [] = []
beaten_lines kept n (e ∷ updates) (spot ∷ spots) =
    beaten_line kept n e spot ++ beaten_lines kept (n + 1) updates spots

-- ---- elements that are shown otherwise than they stand
-- whether members have the name of this one with its value
abbrev pub has_member : List Pair → Pair → Bool
has_member members member = option_map_or (bytes_eq member.1) (value_at member.0 members) false

-- the name of a shown member, if the given members lack it or have another value of it
abbrev pub changed_name : List Pair → Pair → List (List ℕ)
changed_name given member = if has_member given member then [] else member.0 ∷ []

-- the name of a given member, if the shown members lack it
abbrev pub lacked_name : List Pair → Pair → List (List ℕ)
lacked_name shown member = if is_some (value_at member.0 shown) then [] else member.0 ∷ []

-- these names of all shown members, and then of all given ones
abbrev pub changed_names : List Pair → List Pair → List (List ℕ)
changed_names given shown =
    flat_map (changed_name given) shown ++ flat_map (lacked_name shown) given

-- a name behind others
abbrev pub further_name : List ℕ → List ℕ
further_name name = codes ", " ++ name

-- the line that tells these names of the element with this id, if there is one
abbrev pub change_line : List ℕ → List (List ℕ) → List ℕ
change_line id [] = []
change_line id (name ∷ names) =
    codes "element " ++ (quote id ++ (codes ": " ++ (name ++ (flat_map further_name names ++ newline))))

-- the spot with this number
abbrev pub spot_at : List Spot → Option ℕ → Option Spot
spot_at spots None = None
spot_at spots (Some n) = slice_get spots n

-- the line on a shown element, which stands at this spot
abbrev pub shown_line : ElementValue → Option Spot → List ℕ
shown_line e None = []
shown_line e (Some spot) = change_line e.id (changed_names (pairs spot.members) (element_members e))

abbrev pub changed_line : (List ℕ → Option ℕ) → List Spot → ElementValue → List ℕ
changed_line kept spots e = shown_line e (spot_at spots (kept e.id))

abbrev pub changed_lines : (List ℕ → Option ℕ) → List Spot → List ElementValue → List ℕ
changed_lines kept spots shown = flat_map (changed_line kept spots) shown

-- ---- elements that are shown in another order
-- whether this isn't before the last one that was found
abbrev pub is_behind : ℕ → Option ℕ → Bool
is_behind least found = option_map_or (nat_le least) found true

-- the greater of a number and one that was found
abbrev pub next_least : ℕ → Option ℕ → ℕ
next_least least None = least
next_least least (Some n) = n

-- whether the elements stand in the order in which they are shown, none before this number
abbrev pub stand_in_order : (List ℕ → Option ℕ) → ℕ → List ElementValue → Bool
stand_in_order kept least [] = true
stand_in_order kept least (e ∷ shown) =
    is_behind least (kept e.id) && stand_in_order kept (next_least least (kept e.id)) shown

-- the line on the order, where there is one text alone
abbrev pub order_line : (List ℕ → Option ℕ) → ℕ → List ElementValue → List ℕ
order_line kept texts shown =
    if texts == 1 && not (stand_in_order kept 0 shown) then text_line 1 (codes "order") else []

-- ---- files that no image shows
abbrev pub file_line : List (List ℕ) → Pair → List ℕ
file_line named file =
    if list_any (bytes_eq file.0) named then [] else
    codes "file " ++ (quote file.0 ++ (codes ": not shown" ++ newline))

abbrev pub file_lines : List ElementValue → List Pair → List ℕ
file_lines shown files = flat_map (file_line (references shown)) files

-- ---- all of them
-- the lines on a board of so many scenes with these elements, which stand at these spots, and these
-- files, of which these elements are shown
abbrev pub board_lines : (List ℕ → Option ℕ) → ℕ → List ElementValue → List Spot → List ElementValue
    → List Pair → List ℕ
board_lines kept texts updates spots shown files =
    beaten_lines kept 0 updates spots
    ++ (changed_lines kept spots shown ++ (order_line kept texts shown ++ file_lines shown files))
