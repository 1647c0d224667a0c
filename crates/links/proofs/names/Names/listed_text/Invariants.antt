use Rattle.std.proofs.Common.{◌≡◌, find, drop}
use Rattle.links.specs.Texts.{is_text_entry}
use Rattle.links.proofs.names.Names.listed_text.Given as goal

abbrev pub invariant-loop-entry : goal.invariant-loop-entry
invariant-loop-entry l =
    find (is_text_entry l.self l.container) (drop l.entry-index l.entry-items)
    ≡ find (is_text_entry l.self l.container) l.entry-items
