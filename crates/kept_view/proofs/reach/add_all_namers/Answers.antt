use Rattle.std.proofs.Common.{ap, ◌∙◌}
use Rattle.std.proofs.lemmas.Bool.{or_left}
use Rattle.std.proofs.lemmas.Result.{on_ok_weaker}
use Rattle.elem_store.specs.Updates.{is_among}
use Rattle.kept_view.proofs.Stepping.{namers-among}
use Rattle.kept_view.proofs.reach.add_all_namers.Goals as goal

pub returns-clause-namers : goal.returns-clause-namers
returns-clause-namers c =
    on_ok_weaker c.add_all.result
    (λ are m there names.
    are m.id
    ∙ or_left (is_among c.namers.result.now m.id) (is_among c.args.ids.now.list.items m.id)
    (ap (λ ids. is_among ids m.id) c.namers.ensures.exact
    ∙ namers-among c.args.board.live.now.items c.args.board.table.now.rows c.args.id.now c.args.board.ordered
    c.args.board.rows m there names))
    c.add_all.ensures
