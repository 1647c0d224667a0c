use Rattle.kept_view.proofs.UnsettledLaws.{none-shown, own-found}
use Rattle.kept_view.proofs.unsettled.settle.Goals as goal

pub settle_stored-requires-clause-stored : goal.settle_stored-requires-clause-stored
settle_stored-requires-clause-stored c =
    own-found c.args.live.now.items c.args.id.now c.in-Some.e.now c.in-Some.ensures

pub returns-in-None : goal.returns-in-None
returns-in-None c noted = c.forget.ensures c.args.live.now.items c.args.shown.now.items
    (none-shown c.args.live.now.items c.args.shown.now.items c.requires c.args.id.now c.in-None.ensures) noted
