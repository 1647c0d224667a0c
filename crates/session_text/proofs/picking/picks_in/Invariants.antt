use Rattle.std.proofs.Common.{take}
use Rattle.session_text.specs.Forms.{ArePicks}
use Rattle.session_text.proofs.picking.picks_in.Given as goal

abbrev pub invariant-loop-item : goal.invariant-loop-item
invariant-loop-item l = ArePicks l.made (take l.item-index l.items) l.picks.items
