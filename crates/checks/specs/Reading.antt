-- What the texts of an input are read as. This project's own.
use Rattle.std.specs.Prelude.{◌≡◌, ◌⊎◌, ℕ, ◌+◌, ◌≤◌, List, [], ◌∷◌, Bool, true, false, Option, Some, None, MatchBool, codes, drop, length}
use Rattle.json_text.specs.Characters.{is_blank}
use Rattle.json_text.specs.Compact.{Member as Pair}
use Rattle.json_text.specs.Members.{pairs}
use Rattle.json_text.specs.Value.{Stands}
use Rattle.json_reader.specs.Faults.{IsFirstFault}
use Rattle.json_reader.specs.declared.fault.JsonFault.{JsonFault}
use Rattle.scene_json.specs.Named.{value_at}
use Rattle.elem.specs.ElementValue.{ElementValue}
use Rattle.elem.specs.Forms.{IsObject, IsText}
use Rattle.elem_read.specs.Reading.{IsElementIn, IsFaultIn, IsSelection}
use Rattle.elem_read.specs.declared.fault.ElemFault.{ElemFault}
use Rattle.scene_file.specs.Reading.{value_unless_null, HasItems, IsSceneOf, IsSceneFault}
use Rattle.scene_file.specs.declared.fault.SceneFault.{SceneFault}
use Rattle.scene_file.specs.declared.fault.SceneFault.TheVariants as fault
use Rattle.checks.specs.declared.judged.Judged.{Judged}
use Rattle.checks.specs.declared.judged.Judged.TheVariants.{Whole, Flawed, Broken}
use Rattle.checks.specs.declared.judged.Verdict.{Verdict}
use Rattle.checks.specs.declared.judged.Verdict.TheVariants.{Dropped, Read, Faulty}

-- the id that a value has: its object has a text under this name
abbrev pub IsIdIn : List ℕ → Option (List ℕ) → Type 0
IsIdIn value None =
    (members : List Pair) (id : List ℕ) → IsObject value members
    → IsText (value_at (codes "id") members) id → ⊥
IsIdIn value (Some id) =
    (members : List Pair) × IsObject value members × IsText (value_at (codes "id") members) id

-- what the value at a place is read as
abbrev pub IsVerdict : ℕ → List ℕ → Verdict → Type 0
IsVerdict place value Dropped = IsSelection value
IsVerdict place value (Read at members) =
    (at ≡ place) × IsObject value (pairs members) × ((e : ElementValue) × IsElementIn value e)
IsVerdict place value (Faulty at found id) =
    (at ≡ place) × IsFaultIn value found × IsIdIn value id

-- what the values are read as, the first of them at this place
abbrev pub AreVerdicts : ℕ → List (List ℕ) → List Verdict → Type 0
AreVerdicts place [] [] = Unit {0}
AreVerdicts place [] (verdict ∷ verdicts) = ⊥
AreVerdicts place (value ∷ values) [] = ⊥
AreVerdicts place (value ∷ values) (verdict ∷ verdicts) =
    IsVerdict place value verdict × AreVerdicts (place + 1) values verdicts

-- The text is that of an object with these elements, whatever they are.
pub record HasValues (text : List ℕ) (values : List (List ℕ)) : Type 0 where
  pub members : List Pair
  pub object : IsObject text members
  pub items : HasItems (value_unless_null (codes "elements") members) values

-- The text's elements are read so.
abbrev pub HasVerdicts : List ℕ → List Verdict → Type 0
HasVerdicts text verdicts =
    (values : List (List ℕ)) × HasValues text values × AreVerdicts 0 values verdicts

-- whether a fault is one of an element
abbrev pub is_of_element : SceneFault → Bool
is_of_element (fault.Json why) = false
is_of_element fault.NotObject = false
is_of_element fault.NotScene = false
is_of_element fault.Elements = false
is_of_element fault.AppState = false
is_of_element fault.Files = false
is_of_element (fault.Element place why) = true

-- The text has a faulty element, and no other fault.
abbrev pub IsFlawed : List ℕ → Type 0
IsFlawed text = (place : ℕ) × (found : ElemFault) × IsSceneFault text (fault.Element place found)

-- what the text with this number is read as
abbrev pub IsJudged : ℕ → List ℕ → Judged → Type 0
IsJudged number text (Whole n scene verdicts) =
    (n ≡ number) × IsSceneOf text scene × HasVerdicts text verdicts
IsJudged number text (Flawed n verdicts) =
    (n ≡ number) × IsFlawed text × HasVerdicts text verdicts
IsJudged number text (Broken n found) =
    (n ≡ number) × (is_of_element found ≡ false) × IsSceneFault text found

-- whether no further text is read
abbrev pub is_broken : Judged → Bool
is_broken (Whole n scene verdicts) = false
is_broken (Flawed n verdicts) = false
is_broken (Broken n found) = true

-- No value stands at the offset, and what stands there is read as this.
abbrev pub IsNoValue : List ℕ → ℕ → ℕ → Judged → Type 0
IsNoValue bytes number at judged =
    (found : JsonFault) × IsFirstFault bytes at found × (judged ≡ Broken number (fault.Json found))

-- A value with this text stands at the offset, up to this end, and is read as this.
pub record IsTextAt (bytes : List ℕ) (number at : ℕ) (judged : Judged) (text : List ℕ)
    (end : ℕ) : Type 0 where
  pub within : end ≤ length bytes
  pub stands : Stands (drop at bytes) text (drop end bytes)
  pub reads : IsJudged number text judged

-- What the texts from an offset on are read as, the first of them with this number. They end where
-- white space alone is left, or behind the first text that has a fault other than one of an
-- element.
abbrev pub AreTexts : List ℕ → ℕ → ℕ → List Judged → Type 0
AreTexts bytes number at [] = is_blank (drop at bytes) ≡ true
AreTexts bytes number at (judged ∷ more) =
    (is_blank (drop at bytes) ≡ false)
    × ((IsNoValue bytes number at judged × (more ≡ []))
    ⊎ ((text : List ℕ) × (end : ℕ) × IsTextAt bytes number at judged text end
    × MatchBool (is_broken judged) (more ≡ []) (AreTexts bytes (number + 1) end more)))
