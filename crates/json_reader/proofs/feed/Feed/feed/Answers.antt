use Rattle.std.proofs.Common.{Err, ap, ◌∙◌}
use Rattle.json_reader.proofs.Feeds.{used_some, value_there, refused_there, under_way}
use Rattle.json_reader.proofs.feed.Feed.feed.Goals as goal

pub returns-in-Ok-clause-under_way : goal.returns-in-Ok-clause-under_way
returns-in-Ok-clause-under_way c none = under_way c.read_piece.new.rest.items (rw none at c.in-Ok.ensures.fed).2

pub returns-in-Ok-clause-some : goal.returns-in-Ok-clause-some
returns-in-Ok-clause-some c text is =
    rw (← c.self.view_is) (used_some c.self.inside.rest.items c.args.piece.now _ c.in-Ok.fed.used text
    (rw is at c.in-Ok.ensures.fed))

pub returns-in-Ok-clause-value : goal.returns-in-Ok-clause-value
returns-in-Ok-clause-value c text is stream begin at =
    value_there stream begin c.args.piece.now _ (rw (← c.self.view_is) at at) c.read_piece.new.rest.items
    c.in-Ok.fed.used text (rw is at c.in-Ok.ensures.fed)

pub returns-in-Err-Fault-clause-first : goal.returns-in-Err-Fault-clause-first
returns-in-Err-Fault-clause-first c fault is stream begin at =
    refused_there stream begin c.args.piece.now _ (rw (← c.self.view_is) at at) fault
    (c.in-Err-Fault.ensures.fault fault (ap Err c.in-Err-Fault.field-0-is ∙ (cc)))
