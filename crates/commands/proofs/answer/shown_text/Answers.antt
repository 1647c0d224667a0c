use Rattle.std.proofs.lemmas.Result.{IfOk-weaker}
use Rattle.commands.proofs.answer.shown_text.Goals as goal

pub returns-clause-scene : goal.returns-clause-scene
returns-clause-scene c =
    IfOk-weaker c.ended.result _ _ (λ text made. record {
      written = c.in_ok-text.text;
      scene = rw (← c.in_ok-shown.ensures.exact, ← c.as_slice.ensures) c.in_ok-text.ensures;
      ended = made;
      rise = rw (← c.in_ok-shown.ensures.exact) c.in_ok-shown.ensures.keys;
      settled = rw (← c.in_ok-shown.ensures.exact) c.in_ok-shown.ensures.settled;
    }) c.ended.ensures

pub returns-clause-board : goal.returns-clause-board
returns-clause-board c =
    IfOk-weaker c.ended.result _ _ (λ text made scenes board. record {
      head = c.args.head.now;
      stored = c.args.store.elements;
      board = board;
      written = c.in_ok-text.text;
      scene = rw (← c.in_ok-shown.ensures.exact, ← c.as_slice.ensures) c.in_ok-text.ensures;
      ended = made;
      rise = rw (← c.in_ok-shown.ensures.exact) c.in_ok-shown.ensures.keys;
      settled = rw (← c.in_ok-shown.ensures.exact) c.in_ok-shown.ensures.settled;
    }) c.ended.ensures
