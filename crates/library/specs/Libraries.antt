-- The library of all items of several library texts. This project's own.
use Rattle.std.specs.Prelude.{◌≡◌, ℕ, List, [], ◌∷◌, ◌++◌}
use Rattle.library.specs.Best.{AreBest, HaveSameItems}
use Rattle.library.specs.Items.{library_text}
use Rattle.library.specs.Reading.{IsLibraryOf}
use Rattle.library.specs.declared.item.Item.{Item}

-- The compact texts are those of libraries, and these are the items of all of them, text by text.
abbrev pub HaveItems : List (List ℕ) → List Item → Type 0
HaveItems [] items = items ≡ []
HaveItems (text ∷ texts) items =
    (own : List Item) × (others : List Item) × (items ≡ own ++ others) × IsLibraryOf text own
    × HaveItems texts others

-- This is the text of the library of the best items of all these library texts.
pub record IsLibraryOfAll (texts : List (List ℕ)) (output : List ℕ) : Type 0 where
  pub items : List Item
  pub read : HaveItems texts items
  pub best : List Item
  pub are_best : AreBest items best
  pub output_is : output ≡ library_text best

-- Two lists of library texts have the same items, in whatever order, grouping and repetition.
pub record HaveSameItemsIn (texts others : List (List ℕ)) : Type 0 where
  pub items : List Item
  pub other_items : List Item
  pub texts_have : HaveItems texts items
  pub others_have : HaveItems others other_items
  pub same : HaveSameItems items other_items
