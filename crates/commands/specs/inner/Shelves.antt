-- Libraries that are made one, and an item of one that is inserted into a scene. This project's
-- own.
-- Only this crate's own bodies and proofs need it.
use Rattle.std.specs.Prelude.{◌≡◌, ℕ, ◌+◌, ◌==◌, List, false, length}
use Rattle.input_texts.specs.Texts.{Reading}
use Rattle.input_texts.specs.declared.reading.Stopped.{Stopped}
use Rattle.input_texts.specs.declared.reading.Stopped.TheVariants.{Faulty, Refused, Extra}
use Rattle.library.specs.Best.{AreBest}
use Rattle.library.specs.Libraries.{HaveItems}
use Rattle.library.specs.Reading.{IsLibFault}
use Rattle.library.specs.declared.fault.LibFault.{LibFault}
use Rattle.library.specs.declared.item.Item.{Item}
use Rattle.scene_file.specs.declared.fault.SceneFault.TheVariants.{Json}
use Rattle.commands.specs.declared.status.InputRefusal.{InputRefusal}
use Rattle.commands.specs.declared.status.InputRefusal.TheVariants as refusal

-- The best items so far, and the number of the next text, counted from 1.
pub record ShelfSoFar : Type 0 where
  pub best : List Item
  pub next : ℕ

-- The texts are those of libraries, of whose items these are the best.
pub record SayShelf (texts : List (List ℕ)) (so_far : ShelfSoFar) : Type 0 where
  pub items : List Item
  pub read : HaveItems texts items
  pub are_best : AreBest items so_far.best
  pub counted : so_far.next ≡ length texts + 1

-- what is seen of a reader of libraries: it needs one at least
abbrev pub shelf_seen : ShelfSoFar → Reading LibFault
shelf_seen so_far = record {
  has_read = λ texts. SayShelf texts so_far;
  refuses = λ texts text fault. SayShelf texts so_far × IsLibFault text fault;
  is_full = false;
  needs_text = so_far.next == 1;
}

-- what an input is refused for whose text with this number isn't read
abbrev pub shelf_refusal_of : ℕ → Stopped LibFault → InputRefusal
shelf_refusal_of number (Faulty fault) = refusal.Text number (Json fault)
shelf_refusal_of number (Refused fault) = refusal.Library number fault
shelf_refusal_of number (Extra place) = refusal.Extra place
