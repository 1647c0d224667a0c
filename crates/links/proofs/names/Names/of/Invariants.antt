use Rattle.std.proofs.Common.{take}
use Rattle.links.specs.Names.{names_container}
use Rattle.elem.specs.Order.{has_id}
use Rattle.links.specs.inner.Tables.{IsTable}
use Rattle.links.proofs.names.Names.of.Given as goal

abbrev pub invariant-loop-e : goal.invariant-loop-e
invariant-loop-e l =
    let list = take l.e-index l.list.items in
    IsTable has_id list l.by_id.items × IsTable names_container list l.by_container.items
