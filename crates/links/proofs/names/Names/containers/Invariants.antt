use Rattle.std.proofs.Common.{take}
use Rattle.links.specs.Texts.{is_text_of}
use Rattle.links.specs.inner.Tables.{IsTable}
use Rattle.links.proofs.names.Names.containers.Given as goal

abbrev pub invariant-loop-element : goal.invariant-loop-element
invariant-loop-element l = IsTable (is_text_of l.self) (take l.element-index l.self) l.rows.items
