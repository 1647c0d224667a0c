-- What the command gives is stored, captured as asked.
use Rattle.std.proofs.Common.{◌≡◌, Ok, OnOk, sym, subst}
use Rattle.view.specs.Shown.{live_elements, shown}
use Rattle.effects.specs.Changed.{outcome}
use Rattle.replica.specs.Boards.{told}
use Rattle.replica.specs.inner.Boards.{BecomeStored, HasStoredGiven}
use Rattle.replica.specs.Standing.{Kept}
use Rattle.replica.proofs.GivenLaws.{command-given}
use Rattle.replica.proofs.ReplicaLaws.{given-told, given-after}
use Rattle.replica.proofs.replica.Replica.store_given.Goals as goal

pub store_given-requires-clause-given : goal.store_given-requires-clause-given
store_given-requires-clause-given c =
    let board = c.self.inside.board in
    let out = c.requires.given in
    let is = subst (λ (k : Kept). outcome k.stored (shown (live_elements k.stored)) out.command out.time out.nonce
    ≡ Ok c.args.given.now) (sym c.self.view_is) out.is in
    subst (BecomeStored board.store.elements) (sym c.as_slice.ensures)
    (command-given board.store.elements (shown (live_elements board.store.elements)) out.command out.time out.nonce
    c.args.given.now c.self.invariant.0.0.stored_rise is)

pub invariant_of-self : goal.invariant_of-self
invariant_of-self c = (
  given-told (told c.self.inside.board) (told c.store_given.new.self) c.self.inside.held c.args.self.now c.self.view_is
      c.self.invariant.0 c.store_given.result c.args.capture c.as_slice.result.now c.store_given.ensures.ok
      c.store_given.ensures.err,
  c.store_given.ensures.untouched,
)

pub returns-clause-after : goal.returns-clause-after
returns-clause-after c =
    let old = told c.self.inside.board in
    let new = told c.store_given.new.self in
    given-after old new c.self.inside.held c.args.self.now c.self.view_is c.self.invariant.0 c.store_given.result
    c.args.capture c.args.given.now
    (subst (λ es. OnOk c.store_given.result (HasStoredGiven c.args.capture old es new)) c.as_slice.ensures
    c.store_given.ensures.ok)
