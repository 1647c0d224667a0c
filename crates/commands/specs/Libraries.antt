-- What libraries that are made one keep, and an item that is inserted as a clip is pasted. This
-- project's own.
use Rattle.std.specs.Prelude.{◌≡◌, ◌↔◌, ℕ, List, [], ◌∷◌, ◌++◌, Result, Ok}
use Rattle.std.specs.List.{concat}
use Rattle.library.specs.Inserting.{clip_text}
use Rattle.library.specs.Libraries.{HaveSameItemsIn}
use Rattle.library.specs.Reading.{IsLibraryOf}
use Rattle.library.specs.declared.item.Item.{Item}
use Rattle.scene_file.specs.declared.scene.Scene.{Scene}
use Rattle.commands.specs.Again.{AreAnswers}
use Rattle.commands.specs.Answers.{IsAnswer}
use Rattle.commands.specs.Input.{HasScenes}
use Rattle.commands.specs.Shelves.{HasTexts, IsBestOfId}
use Rattle.commands.specs.declared.status.InputRefusal.{InputRefusal}
use Rattle.commands.specs.declared.words.Insertion.{Insertion}
use Rattle.commands.specs.declared.words.ProgramCommand.TheVariants.{Insert, Library, Paste}

-- What `library` wrote is its own library.
abbrev pub LibraryIsItsOwn : Type 0
LibraryIsItsOwn =
    (bytes text other : List ℕ) → IsAnswer Library bytes (Ok text)
    → IsAnswer Library text (Ok other) ↔ (other ≡ text)

-- The libraries of inputs stand for these: theirs, one after the other, have the library of all
-- inputs.
abbrev pub LibrariesStandFor : Type 0
LibrariesStandFor =
    (inputs libraries : List (List ℕ)) (text : List ℕ) → AreAnswers Library inputs libraries
    → IsAnswer Library (concat libraries) (Ok text) ↔ IsAnswer Library (concat inputs) (Ok text)

-- Two inputs are library texts with the same items, in whatever order, grouping and repetition.
pub record HoldSameItems (bytes others : List ℕ) : Type 0 where
  pub texts : List (List ℕ)
  pub other_texts : List (List ℕ)
  pub bytes_hold : HasTexts bytes texts
  pub others_hold : HasTexts others other_texts
  pub same : HaveSameItemsIn texts other_texts

-- Inputs with the same items have one library.
abbrev pub SameItemsSameLibrary : Type 0
SameItemsSameLibrary =
    (bytes others text : List ℕ) → HoldSameItems bytes others → IsAnswer Library bytes (Ok text)
    → IsAnswer Library others (Ok text)

-- The bytes are one library text of these items, and white space.
abbrev pub HasLibrary : List ℕ → List Item → Type 0
HasLibrary bytes items = (text : List ℕ) × HasTexts bytes (text ∷ []) × IsLibraryOf text items

-- A scene and a library behind it, the best item of an id of which is inserted, are answered as the
-- scene and the text of a clip with the item's elements behind it, which is pasted: with the same
-- text, or the same refusal.
abbrev pub InsertsArePastes : Type 0
InsertsArePastes =
    (insertion : Insertion) (first library : List ℕ) (scene : Scene) (items : List Item)
    (item : Item) (answer : Result (List ℕ) InputRefusal)
    → HasScenes first (scene ∷ []) → HasLibrary library items
    → IsBestOfId items insertion.item item
    → IsAnswer (Insert insertion) (first ++ library) answer
    ↔ IsAnswer (Paste insertion.prefix) (first ++ clip_text item.elements) answer
