use Rattle.std.proofs.Common.{sym, subst}
use Rattle.commands.specs.inner.Shelves.{SayShelf, ShelfSoFar}
use Rattle.commands.proofs.ReadShelves.{shelf-more}
use Rattle.commands.proofs.Readers.{later-number}
use Rattle.commands.proofs.taking.ShelvedReader.read.Goals as goal

pub returns-clause-read : goal.returns-clause-read
returns-clause-read c texts say =
    let old : ShelfSoFar = record { best = c.self.inside.shelf; next = c.self.inside.next } in
    let new : ShelfSoFar = record { best = c.put_all.new.shelf; next = c.in_ok-next.next } in
    shelf-more texts c.args.text.now c.in_ok-items.items old new (subst (SayShelf texts) (sym c.self.view_is) say)
    c.in_ok-items.ensures.library c.in_ok-put_all.ensures c.in_ok-next.ensures

pub returns-clause-enough : goal.returns-clause-enough
returns-clause-enough c = later-number c.in_ok-next.next c.self.inside.next c.in_ok-next.ensures c.self.invariant
