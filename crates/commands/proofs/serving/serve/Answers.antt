-- Where the output fails, a first part of the scene at the room's end is out.
use Rattle.std.proofs.lemmas.Result.{err_from_is_err_and}
use Rattle.commands.proofs.serving.serve.Goals as goal

pub returns-in_err-written-clause-fault : goal.returns-in_err-written-clause-fault
returns-in_err-written-clause-fault g c =
    let board = c.in_ok-head.ensures.board in
    let held = c.in_ok-end.ensures in
    let part = c.in_err-written.ensures.part in
    let p = err_from_is_err_and c.from_residual-in_err-written.result c.from_residual-in_err-written.ensures.1 in
    rw (p.1, p.2, c.in_err-written.ensures.only) (
      (
        c.in_ok-end.end,
        part.0,
        record {
          bytes = board.0;
          read = board.1;
          scenes = board.2.0;
          has_scenes = board.2.1;
          text = _;
          room = record { begun = _; held = held.held; board = board.2.2 };
          listens = held.listens;
          whole = held.end;
          rose = held.rose;
          took = part.1;
        },
      ),
      c.in_err-written.ensures.rose,
    )
