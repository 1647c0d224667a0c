-- What a command may rely on of a board: the view and what it keeps beside what is shown.
use Rattle.std.specs.Prelude.{IsPermutation}
use Rattle.std.proofs.Common.{subst, sym}
use Rattle.elem_store.specs.Updates.{ids_of}
use Rattle.view.specs.Kept.{AreOthersAsStored, AreOthersKeyedAsStored, HaveRowsOf}
use Rattle.replica.proofs.board.Board.given.Goals as goal

pub changed-requires-clause-lookup : goal.changed-requires-clause-lookup
changed-requires-clause-lookup c =
    let sound = c.requires.board.0.0 in
    record {
      ordered = sound.stored_rise;
      ids = subst (λ live. IsPermutation (ids_of live) (ids_of c.elements.result.now))
          sound.view c.elements.ensures.ids;
      keys = c.elements.ensures.keys;
      settled = c.elements.ensures.settled;
      table = subst (λ live. HaveRowsOf live c.names.result.now.rows) sound.view c.names.ensures;
      others = subst (λ live. AreOthersAsStored c.unsettled.result.now live c.elements.result.now)
          sound.view (subst (AreOthersAsStored c.unsettled.result.now c.args.self.now.view)
          (sym c.elements.ensures.exact) c.unsettled.ensures);
      keyed = subst (λ live. AreOthersKeyedAsStored c.rekeyed.result.now live c.elements.result.now)
          sound.view (subst (AreOthersKeyedAsStored c.rekeyed.result.now c.args.self.now.view)
          (sym c.elements.ensures.exact) c.rekeyed.ensures);
    }
