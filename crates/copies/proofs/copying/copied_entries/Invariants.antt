use Rattle.std.proofs.Common.{◌≡◌, take, nat_cmp}
use Rattle.std.specs.BTreeSet.{contains}
use Rattle.std.specs.Cmp.Lexicographic.{slice_cmp}
use Rattle.copies.specs.Copies.{copied_entries}
use Rattle.copies.proofs.copying.copied_entries.Given as goal

abbrev pub invariant-loop-entry : goal.invariant-loop-entry
invariant-loop-entry l =
    l.new.items ≡ copied_entries (contains (slice_cmp nat_cmp) l.ids) l.prefix (take l.entry-index l.entries)
