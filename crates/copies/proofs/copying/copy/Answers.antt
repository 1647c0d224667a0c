use Rattle.std.proofs.Common.{nat_cmp}
use Rattle.std.specs.BTreeSet.{contains}
use Rattle.std.specs.Cmp.Lexicographic.{slice_cmp}
use Rattle.copies.proofs.CopyKept.{element-made}
use Rattle.copies.proofs.copying.copy.Goals as goal

pub invariant_of-result : goal.invariant_of-result
invariant_of-result c =
    element-made (contains (slice_cmp nat_cmp) c.args.ids.now) c.args.prefix.now
    c.in_ok-prefixed.ensures c.in_ok-try_clone.ensures c.in_ok-all_prefixed.ensures c.in_ok-copied_name.ensures
    c.in_ok-copied_entries.ensures
    c.in_ok-copied_name-2.ensures c.in_ok-copied_end.ensures c.in_ok-copied_end-2.ensures c.in_ok-text_clone.ensures
    c.in_ok-try_clone-2.ensures c.e.invariant
