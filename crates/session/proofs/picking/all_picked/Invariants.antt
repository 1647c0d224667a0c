-- What the first picks pick is copied.
use Rattle.std.proofs.Common.{◌≡◌, take}
use Rattle.session.specs.Worlds.{all_picked}
use Rattle.session.proofs.picking.all_picked.Given as goal

abbrev pub invariant-loop-pick : goal.invariant-loop-pick
invariant-loop-pick l = l.copies.items ≡ all_picked l.messages.items (take l.pick-index l.picks)
