use Rattle.std.proofs.Common.{not, ◌||◌, arith, ap, ◌∙◌, take_all}
use Rattle.links.specs.Names.{is_text}
use Rattle.elem_store.specs.Updates.{is_among}
use Rattle.kept_view.proofs.Stepping.{linking-among, linking-more}
use Rattle.kept_view.proofs.reach.add_linking.Goals as goal

pub loop-namer-preserved : goal.loop-namer-preserved
loop-namer-preserved c = record {
  kept = λ x h. c.in_ok-add_if_linking.ensures.kept x (c.loop-namer.invariant.kept x h);
  linking = linking-more (λ e. not c.args.texts_alone || is_text e.kind) c.args.board.live.now.items c.args.id.now
      c.namers-namers.result.now c.loop-namer.namer-index
      c.namer-item.result c.loop-namer.ids.list.items c.add_if_linking.new.ids.list.items
      c.args.board.ordered (omega arith) c.namer-item.is c.loop-namer.invariant.linking
      c.in_ok-add_if_linking.ensures.kept c.in_ok-add_if_linking.ensures.linking;
}

pub returns-clause-linking : goal.returns-clause-linking
returns-clause-linking c e there links is =
    c.loop-namer.invariant.linking e there links is
    (ap (λ ids. is_among ids e.id) (take_all c.loop-namer.namer-index c.namers-namers.result.now (omega arith)
    ∙ c.namers-namers.ensures.exact)
    ∙ linking-among c.args.board.live.now.items c.args.board.table.now.rows c.args.id.now e c.args.board.ordered
    c.args.board.rows there links)
