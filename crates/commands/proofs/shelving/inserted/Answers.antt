use Rattle.std.proofs.Common.{[], ◌∷◌, Err, inl, inr, ap, sym, ◌∙◌}
use Rattle.board_base.specs.declared.stop.Stop.TheVariants as stop
use Rattle.library.proofs.CallerLemmas.{best-found, best-none}
use Rattle.commands.specs.Boards.{heads_of, updates_of}
use Rattle.commands.proofs.Judging.{same-why}
use Rattle.commands.proofs.shelving.inserted.Goals as goal

pub returns-in-Ok-clause-inserted : goal.returns-in-Ok-clause-inserted
returns-in-Ok-clause-inserted c =
    let scene = c.in_ok-scene.scene in
    let items = c.in_ok-scene.items in
    let board = c.in_ok-head.ensures in
    let joined = c.in-Ok.ensures.head in
    let found = c.in-Ok.ensures.found in
    record {
      scene = scene;
      items = items;
      holds = c.in_ok-scene.ensures.found;
      item = found.0;
      best = best-found items c.in_ok-shelf.shelf c.args.insertion.now.item found.0 c.in_ok-shelf.ensures found.1;
      is = record {
        old = c.in_ok-head.head;
        stored = c.in_ok-head.store.elements;
        board = board;
        new = c.in-Ok.ensures.new found.0 found.1;
        own = joined.clip;
        own_files = joined.own;
        head = c.insert.new.head;
        joined = joined.joined (heads_of (scene ∷ [])) board.joined;
        all = c.insert.new.store.elements;
        stores = c.in-Ok.ensures.stored found.0 found.1 (updates_of (scene ∷ [])) board.stores;
        shown = c.in_ok-shown_text-in-Ok.ensures.scene;
      };
    }

pub returns-in-Err-Fault-NoItem-clause-refused : goal.returns-in-Err-Fault-NoItem-clause-refused
returns-in-Err-Fault-NoItem-clause-refused c why e =
    let items = c.in_ok-scene.items in
    inr (inl (
      sym (same-why _ _ why e),
      record {
        scene = c.in_ok-scene.scene;
        items = items;
        holds = c.in_ok-scene.ensures.found;
        none = λ item among same. best-none items c.in_ok-shelf.shelf c.args.insertion.now.item item
            c.in_ok-shelf.ensures (c.in-Err-Fault-NoItem.ensures.no_item
            (ap Err (c.in-Err-Fault-NoItem.field-0-is
            ∙ ap stop.Fault (rw c.in-Err-Fault-NoItem.field-0-is at c.in-Err-Fault-NoItem.field-0-0-is)))) among same;
      },
    ))

pub returns-in-Err-Fault-Exists-clause-refused : goal.returns-in-Err-Fault-Exists-clause-refused
returns-in-Err-Fault-Exists-clause-refused c why e =
    let items = c.in_ok-scene.items in
    let place = c.in-Err-Fault-Exists.place in
    let is = rw c.in-Err-Fault-Exists.field-0-is at c.in-Err-Fault-Exists.field-0-0-is in
    let found =
    c.in-Err-Fault-Exists.ensures.exists place (ap Err (c.in-Err-Fault-Exists.field-0-is ∙ ap stop.Fault is)) in
    inr (inr (
      place,
      rw (c.in-Err-Fault-Exists.field-0-is, is) at (sym (same-why _ _ why e)),
      record {
        scene = c.in_ok-scene.scene;
        items = items;
        holds = c.in_ok-scene.ensures.found;
        item = found.0;
        best = best-found items c.in_ok-shelf.shelf c.args.insertion.now.item found.0 c.in_ok-shelf.ensures found.1;
        is = record {
          head = c.in_ok-head.head;
          stored = c.in_ok-head.store.elements;
          board = c.in_ok-head.ensures;
          exists = found.2;
        };
      },
    ))
