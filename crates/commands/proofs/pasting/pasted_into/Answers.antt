use Rattle.std.proofs.Common.{[], ◌∷◌}
use Rattle.commands.specs.Boards.{heads_of, updates_of}
use Rattle.commands.proofs.pasting.pasted_into.Goals as goal

pub returns-in-Ok-clause-pasted : goal.returns-in-Ok-clause-pasted
returns-in-Ok-clause-pasted c =
    let board = c.in_ok-head.ensures in
    let joined = c.in-Ok.ensures.head in
    record {
      old = c.in_ok-head.head;
      stored = c.in_ok-head.store.elements;
      board = board;
      new = c.in-Ok.ensures.new;
      own = joined.clip;
      own_files = joined.own;
      head = c.paste.new.head;
      joined = joined.joined (heads_of (c.args.scene ∷ [])) board.joined;
      all = c.paste.new.store.elements;
      stores = c.in-Ok.ensures.stored (updates_of (c.args.scene ∷ [])) board.stores;
      shown = c.in_ok-shown_text-in-Ok.ensures.scene;
    }
