use Rattle.std.proofs.Common.{List, ℕ, sym, subst}
use Rattle.std.proofs.lemmas.Result.{err_from_is_err_and}
use Rattle.input_texts.specs.Texts.{AreRead}
use Rattle.library.specs.Best.{AreBest}
use Rattle.library.specs.Libraries.{HaveItems}
use Rattle.library.specs.declared.item.Item.{Item}
use Rattle.commands.specs.Ends.{limit}
use Rattle.commands.specs.Shelves.{HasTexts, IsShelfRefusal}
use Rattle.commands.specs.inner.Shelves.{ShelfSoFar, shelf_refusal_of, shelf_seen}
use Rattle.commands.proofs.Given.{unread}
use Rattle.commands.proofs.ReadShelves.{shelf-read, shelf-refused}
use Rattle.commands.proofs.input.some_shelf.Goals as goal

pub returns-in_err-found-clause-fault : goal.returns-in_err-found-clause-fault
returns-in_err-found-clause-fault g c =
    let p = err_from_is_err_and c.from_residual.result c.from_residual.ensures.1 in
    rw (p.1, p.2) (unread limit IsShelfRefusal _ _ c.in_err-found.ensures.fault)

pub returns-in-None-clause-shelf : goal.returns-in-None-clause-shelf
returns-in-None-clause-shelf g c =
    let read = c.in_ok-found.ensures.read in
    let so_far = c.read_input.new.reader in (
      read.0,
      read.1,
      subst (λ (seen : ShelfSoFar). (texts : List (List ℕ)) × (items : List Item) × HasTexts read.0 texts
          × HaveItems texts items × AreBest items seen.best) (sym c.shelved.view_is)
          (shelf-read read.0 so_far (subst (AreRead read.0 (shelf_seen so_far)) c.in-None.is read.2)),
    )

pub returns-in-Some-clause-fault : goal.returns-in-Some-clause-fault
returns-in-Some-clause-fault g c =
    let read = c.in_ok-found.ensures.read in
    let so_far = c.read_input.new.reader in
    let refused = shelf-refused read.0 so_far c.in-Some.stopped
    (subst (AreRead read.0 (shelf_seen so_far)) c.in-Some.is read.2) in (
      read.0,
      read.1,
      subst (IsShelfRefusal read.0) (sym c.shelf_refused.ensures)
          (subst (λ (seen : ShelfSoFar). IsShelfRefusal read.0 (shelf_refusal_of seen.next c.in-Some.stopped))
          (sym c.shelved.view_is) refused),
    )
